use mathlib.Core.Path.{◌≡◌, sym, ap, ◌∙◌}
use borrow.Author.Rules.{rules}
use lib.ListN.{length}
use Rattle.std.proofs.Common.{Err}
use Rattle.answers.specs.Try.{Try}
use Rattle.filter_read.specs.Internal.RawPing.{ping_at}
use Rattle.table.specs.Table.{table_from}
use Rattle.locator.specs.declared.Answered.{Answered}
use Rattle.locator.proofs.Laws.Answer.{refusal-given, over-used, over-refused, answer_of_lem}
use Rattle.locator.proofs.over.answer_over.Goals as goal

pub reply_to-requires : goal.reply_to-requires
reply_to-requires c =
    let h = c.in_ok-used.ensures.used_in in
    record { context_in_bounds = h.0; application_value = h.1; user_value = c.requires }

pub returns-in_err-used : goal.returns-in_err-used
returns-in_err-used c =
    let a = c.args in
    let r = c.in_err-used.field-0.0 in
    let refused : ◌≡◌ {A = Try Answered} c.from_residual.result (Err r) = search rules in
    let w = refusal-given _ r a.reply.now (over-refused (table_from a.image.now) a.caller (ping_at a.source.now a.ping) (length a.reply.now) r (sym c.in_err-used.ensures.result_value)) in
    record { value = refused ∙ w.0; reply_after = w.1 }

pub returns : goal.returns
returns c =
    let a = c.args in
    let w = answer_of_lem _ _ _ a.reply.now _ (over-used (table_from a.image.now) a.caller (ping_at a.source.now a.ping) (length a.reply.now) _ (sym c.in_ok-used.ensures.result_value)) (c.reply_to.ensures.value, c.reply_to.ensures.reply_after) in
    record { value = w.0; reply_after = w.1 }
