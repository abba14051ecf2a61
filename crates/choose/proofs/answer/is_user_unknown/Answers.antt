use Rattle.std.proofs.Common.{◌≡◌, sym, ap, ◌∙◌, not, List, ℕ, Option, None, Some, option_map}
use Rattle.octets.specs.Lists.{cut, holds}
use Rattle.octets.specs.Stretch.{stretch_of}
use Rattle.filter_read.specs.Internal.RawPing.{ping_at}
use Rattle.filter_read.specs.Value.{Ping}
use Rattle.table.specs.declared.ContextNumber.{ContextNumber}
use Rattle.table.specs.Account.{Account, account_of, account_format}
use Rattle.table.specs.Context.{Context, context_of, context_format}
use Rattle.table.specs.Table.{Table, table_from}
use Rattle.table_find.specs.LogOn.{may_log_on}
use Rattle.table_lookup.specs.Lookup.{account_by_name}
use Rattle.choose.specs.Choose.{is_known, is_user_unknown}
use Rattle.choose.proofs.answer.is_user_unknown.Goals as goal
use Rattle.choose.proofs.answer.is_user_unknown.Goals.{After-account_by_name}

-- a user was asked for, and what is found by the name tells whether the context knows it
told : (t : Table) (c : Context) (p : Ping) (name : List ℕ) → p.user ≡ Some name → (n : ContextNumber) → n ≡ c.number → (found : Option Account) → found ≡ account_by_name t n name
    → not (holds (may_log_on p.aac) found) ≡ is_user_unknown t c p
unfolding is_user_unknown is_known
told t c p name u n m found e =
    ap (λ (o : Option Account). not (holds (may_log_on p.aac) o)) (e ∙ ap (λ (k : ContextNumber). account_by_name t k name) m)
    ∙ ap (λ (o : Option (List ℕ)). holds (λ s. not (is_known t c p.aac s)) o) (sym u)

-- the same, as the code asks
asked : (c : After-account_by_name) (found : Option Account) → found ≡ account_by_name (table_from c.args.image.now) c.number-number.result c.of.result.now
    → not (holds (may_log_on c.args.ping.aac) found)
    ≡ is_user_unknown (table_from c.args.image.now) (context_of (cut c.args.image.now c.args.context context_format.width)) (ping_at c.args.source.now c.args.ping)
asked c found e =
    let a = c.args in
    let user = ap (option_map (stretch_of a.source.now)) c.in-Some.is ∙ ap Some (sym c.of.ensures) in
    let number =
    c.number-number.ensures ∙ ap (λ (r : List ℕ). (context_of r).number) (c.part.ensures ∙ ap (λ (s : List ℕ). cut s a.context context_format.width) c.octets-octets.ensures.same) in
    told (table_from a.image.now) (context_of (cut a.image.now a.context context_format.width)) (ping_at a.source.now a.ping) c.of.result.now user _ number found e

pub returns-in_default : goal.returns-in_default
unfolding is_user_unknown
returns-in_default c = rw c.in_default.is

pub returns-in-Some-account_by_name : goal.returns-in-Some-account_by_name
returns-in-Some-account_by_name c =
    let a = c.args in
    let there = c.part-in-Some-account_by_name.ensures ∙ ap (λ (s : List ℕ). cut s c.in-Some-account_by_name.offset account_format.width) c.octets-octets.ensures.same in
    ap not (c.may_log_on.ensures ∙ ap (λ (r : List ℕ). may_log_on a.ping.aac (account_of r)) there)
    ∙ asked (goal.at.returns-in-Some-account_by_name c).After-account_by_name (Some _) c.in-Some-account_by_name.ensures.result_value

pub returns-in-None : goal.returns-in-None
returns-in-None c = asked (goal.at.returns-in-None c).After-account_by_name None c.in-None.ensures.result_value
