use mathlib.Core.Path.{◌≡◌, refl, sym, ap, ◌∙◌}
use borrow.Author.Rules.{rules}
use lib.ListN.{length}
use mathlib.Core.Bool.{not}
use Rattle.locator.specs.Answer.{answer_over}
use Rattle.table.specs.Table.{table_from}
use Rattle.std.proofs.Common.{Err}
use Rattle.answers.specs.Try.{Try}
use Rattle.filter_read.specs.Value.{Ping}
use Rattle.octets.specs.Lists.{holds}
use Rattle.unicode_text.specs.UserName.{is_user_name}
use Rattle.mailslot_answer.specs.Ping.{mailslot_ping}
use Rattle.mailslot_answer.proofs.Laws.Ping.{not_pinged, user_passes, pinged}
use Rattle.locator.specs.declared.Answered.{Answered}
use Rattle.mailslot_answer.specs.Answer.{AnswerMailslotReturns, AnswerMailslotLeaves}
use Rattle.locator.proofs.Laws.Answer.{refusal-given, ping-refused, ping_answered, answer_of_lem, answer_promised}
use Rattle.mailslot_answer.proofs.accepted.answer_mailslot_accepted.Goals as goal

pub answer_over-requires : goal.answer_over-requires
answer_over-requires c =
    let message = c.args.message.now in
    ap (λ (p : Ping). holds (λ x. not (is_user_name x)) p.user) c.put_ping-ping.ensures ∙ user_passes message _ (sym c.in_ok-read.ensures.same)

pub put_ping-ping-requires : goal.put_ping-ping-requires
put_ping-ping-requires c = (sym c.in_ok-read.ensures.same, refl)

pub returns-in_err-read : goal.returns-in_err-read
returns-in_err-read c =
    let a = c.args in
    let r = c.in_err-read.field-0.0 in
    let refused : ◌≡◌ {A = Try Answered} c.from_residual.result (Err r) = search rules in
    let given = refusal-given _ _ a.reply.now (ping-refused mailslot_ping a.image.now a.caller a.message.now (length a.reply.now) _ _ c.requires (not_pinged a.message.now _ (sym c.in_err-read.ensures.same))) in
    let w : AnswerMailslotReturns a.image.now a.caller a.message.now a.reply.now c.from_residual.result × AnswerMailslotLeaves a.image.now a.caller a.message.now a.reply.now a.reply.now =
    answer_promised _ _ (refused ∙ given.0, given.1) in
    record { answer_mailslot_returns = w.0; answer_mailslot_leaves = w.1 }

pub returns : goal.returns
returns c =
    let a = c.args in
    let over = rw c.judged_before-accepted.ensures at c.answer_over.ensures in
    let w : AnswerMailslotReturns a.image.now a.caller a.message.now a.reply.now c.answer_over.result × AnswerMailslotLeaves a.image.now a.caller a.message.now a.reply.now c.answer_over.new.reply =
    answer_promised _ _ (answer_of_lem _ _ _ a.reply.now _ (ping_answered mailslot_ping a.image.now a.caller a.message.now (length a.reply.now) _ _ c.requires (pinged a.message.now _ (sym c.in_ok-read.ensures.same)) ∙ ap (λ (p : Ping). answer_over (table_from a.image.now) a.caller p (length a.reply.now)) (sym c.put_ping-ping.ensures)) (over.value, over.reply_after)) in
    record { answer_mailslot_returns = w.0; answer_mailslot_leaves = w.1 }
