use Rattle.std.proofs.Common.{◌≡◌, sym, ap, subst, ◌∙◌, rules, List, ℕ, Option, None, Some, Err, ok_or}
use Rattle.answers.specs.declared.Refusal.{Refusal}
use Rattle.answers.specs.declared.Refusal.TheVariants.{TableWhole}
use Rattle.answers.specs.Try.{Try}
use Rattle.octets.specs.Lists.{holds}
use Rattle.filter_read.specs.Internal.RawPing.{ping_at}
use Rattle.table.specs.declared.record.RecordKind.TheVariants as kind
use Rattle.table.specs.Context.{Context}
use Rattle.table.specs.Table.{table_from}
use Rattle.table_find.specs.Internal.Found.{LiesIn, context_at}
use Rattle.choose.specs.Judge.{context_in}
use Rattle.choose.specs.Choose.{names_application}
use Rattle.choose_context.specs.declared.context.ContextUsed.{ContextUsed}
use Rattle.choose_context.specs.Internal.Used.{used_as}
use Rattle.choose_context.proofs.Laws.Used.{after_names, refused_guid, refused_name, from_names, asked_application}
use Rattle.choose_context.proofs.context.context_used.Goals as goal
use Rattle.choose_context.proofs.context.context_used.Goals.{After-preferred_of}

-- 11 to 14 passed: what the context used is judged by
passed : (c : After-preferred_of) (context : Option ℕ) → c.preferred_of.result ≡ context
    → after_names (table_from c.args.image.now) (ping_at c.args.source.now c.args.ping) (context_at c.args.image.now context)
    ≡ context_in (table_from c.args.image.now) (ping_at c.args.source.now c.args.ping)
passed c context e =
    let a = c.args in
    let t = table_from a.image.now in
    let p = ping_at a.source.now a.ping in
    ap (after_names t p) (ap (context_at a.image.now) (sym e) ∙ c.preferred_of.ensures.result_value)
    ∙ from_names t p (context_at a.image.now c.in_ok-guid.guid) c.in_ok-guid.ensures.result_value (context_at a.image.now c.in_ok-name.name) c.in_ok-name.ensures.result_value

pub returns-in_err-guid-clause-result_value : goal.returns-in_err-guid-clause-result_value
returns-in_err-guid-clause-result_value c =
    let a = c.args in
    let r = c.in_err-guid.field-0.0 in
    let refused : ◌≡◌ {A = Try ContextUsed} c.from_residual.result (Err r) = search rules in
    ap (used_as a.image.now) refused ∙ refused_guid (table_from a.image.now) (ping_at a.source.now a.ping) r c.in_err-guid.ensures.result_value

pub returns-in_err-name-clause-result_value : goal.returns-in_err-name-clause-result_value
returns-in_err-name-clause-result_value c =
    let a = c.args in
    let r = c.in_err-name.field-0.0 in
    let refused : ◌≡◌ {A = Try ContextUsed} c.from_residual-in_err-name.result (Err r) = search rules in
    ap (used_as a.image.now) refused
    ∙ refused_name (table_from a.image.now) (ping_at a.source.now a.ping) (context_at a.image.now c.in_ok-guid.guid) c.in_ok-guid.ensures.result_value r c.in_err-name.ensures.result_value

pub returns-in_err-context-clause-result_value : goal.returns-in_err-context-clause-result_value
returns-in_err-context-clause-result_value c =
    let a = c.args in
    let r = c.in_err-context.field-0.0 in
    let refused : ◌≡◌ {A = Try ContextUsed} c.from_residual-in_err-context.result (Err r) = search rules in
    let none : c.preferred_of.result ≡ None = c.in_err-context.ensures.ok_part in
    let same : ◌≡◌ {A = Try ℕ} (Err r) (Err TableWhole) = c.in_err-context.ensures.value ∙ ap (λ (o : Option ℕ). ok_or o TableWhole) none in
    let whole : r ≡ TableWhole = cc in
    let refusal : Refusal → Try Context = λ x. Err x in
    ap (used_as a.image.now) refused ∙ ap refusal whole ∙ passed (goal.at.returns-in_err-context-clause-result_value c).After-preferred_of None none

pub returns-in_err-judge_sid-clause-result_value : goal.returns-in_err-judge_sid-clause-result_value
returns-in_err-judge_sid-clause-result_value c =
    let a = c.args in
    let r = c.in_err-judge_sid.field-0.0 in
    let refused : ◌≡◌ {A = Try ContextUsed} c.from_residual-in_err-judge_sid.result (Err r) = search rules in
    ap (used_as a.image.now) refused ∙ c.in_err-judge_sid.ensures ∙ passed (goal.at.returns-in_err-judge_sid-clause-result_value c).After-preferred_of (Some c.in_ok-context.context) c.in_ok-context.ensures.ok_part

pub returns-clause-result_value : goal.returns-clause-result_value
returns-clause-result_value c = c.in_ok-judge_sid.ensures ∙ passed (goal.at.returns-clause-result_value c).After-preferred_of (Some c.in_ok-context.context) c.in_ok-context.ensures.ok_part

pub returns-clause-used_in : goal.returns-clause-used_in
unfolding names_application
returns-clause-used_in c =
    let a = c.args in
    let p = ping_at a.source.now a.ping in
    let there = subst (LiesIn a.image.now kind.Context) c.in_ok-context.ensures.ok_part c.preferred_of.ensures.lies_in in
    let told = c.is_application-application.ensures ∙ ap (λ (s : List ℕ). holds (λ (x : Context). x.application) (context_at s c.in_ok-name.name)) c.octets.ensures.same in
    (there, told ∙ sym (asked_application (table_from a.image.now) p.dns_domain_lem (context_at a.image.now c.in_ok-name.name) (sym c.in_ok-name.ensures.result_value)))
