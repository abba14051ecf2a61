use mathlib.Core.Path.{◌≡◌, sym, ap, ◌∙◌}
use borrow.Author.Rules.{rules}
use lib.ListN.{length}
use Rattle.std.proofs.Common.{Err}
use Rattle.answers.specs.Try.{Try}
use Rattle.filter_read.specs.Value.{ping_from}
use Rattle.filter_read.proofs.Laws.Value.{ping-user}
use Rattle.locator.specs.declared.Answered.{Answered}
use Rattle.locator.specs.Answer.{AnswerPingReturns, AnswerPingLeaves}
use Rattle.locator.proofs.Laws.Answer.{refusal-given, ping-refused, ping_answered, answer_of_lem, answer_promised}
use Rattle.locator.proofs.accepted.answer_accepted.Goals as goal

pub answer_over-requires : goal.answer_over-requires
answer_over-requires c = ping-user c.args.filter.now _ (sym c.in_ok-ping.ensures)

pub returns-in_err-ping : goal.returns-in_err-ping
returns-in_err-ping c =
    let a = c.args in
    let r = c.in_err-ping.field-0.0 in
    let refused : ◌≡◌ {A = Try Answered} c.from_residual.result (Err r) = search rules in
    let given = refusal-given _ _ a.reply.now (ping-refused ping_from a.image.now a.caller a.filter.now (length a.reply.now) _ _ c.requires (sym c.in_err-ping.ensures)) in
    let w : AnswerPingReturns a.image.now a.caller a.filter.now a.reply.now c.from_residual.result × AnswerPingLeaves a.image.now a.caller a.filter.now a.reply.now a.reply.now =
    answer_promised _ _ (refused ∙ given.0, given.1) in
    record { answer_ping_returns = w.0; answer_ping_leaves = w.1 }

pub returns : goal.returns
returns c =
    let a = c.args in
    let over = rw c.judged_before-accepted.ensures at c.answer_over.ensures in
    let w : AnswerPingReturns a.image.now a.caller a.filter.now a.reply.now c.answer_over.result × AnswerPingLeaves a.image.now a.caller a.filter.now a.reply.now c.answer_over.new.reply =
    answer_promised _ _ (answer_of_lem _ _ _ a.reply.now _ (ping_answered ping_from a.image.now a.caller a.filter.now (length a.reply.now) _ _ c.requires (sym c.in_ok-ping.ensures)) (over.value, over.reply_after)) in
    record { answer_ping_returns = w.0; answer_ping_leaves = w.1 }
