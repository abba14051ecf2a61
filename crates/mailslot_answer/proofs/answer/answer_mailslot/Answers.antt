use mathlib.Core.Path.{◌≡◌, sym, ap, ◌∙◌}
use borrow.Author.Rules.{rules}
use lib.ListN.{length}
use Rattle.std.proofs.Common.{Err}
use Rattle.answers.specs.Try.{Try}
use Rattle.mailslot_answer.specs.Ping.{mailslot_ping}
use Rattle.table_whole.specs.Judgement.{table_in}
use Rattle.table_whole.proofs.Laws.Judgement.{passed_accepted, judged-refused}
use Rattle.locator.specs.declared.Answered.{Answered}
use Rattle.mailslot_answer.specs.Answer.{AnswerMailslotReturns, AnswerMailslotLeaves}
use Rattle.locator.proofs.Laws.Answer.{refusal-given, table-refused, answer_promised}
use Rattle.mailslot_answer.proofs.answer.answer_mailslot.Goals as goal

pub answer_mailslot_accepted-requires : goal.answer_mailslot_accepted-requires
answer_mailslot_accepted-requires c = passed_accepted c.args.image.now c.in_ok-judge.ensures.same

pub returns-in_err-judge : goal.returns-in_err-judge
returns-in_err-judge c =
    let a = c.args in
    let r = c.in_err-judge.field-0.0 in
    let refused : ◌≡◌ {A = Try Answered} c.from_residual.result (Err r) = search rules in
    let judged = judged-refused (table_in a.image.now) _ c.in_err-judge.ensures.same in
    let given = refusal-given _ _ a.reply.now (table-refused mailslot_ping a.image.now a.caller a.message.now (length a.reply.now) _ judged) in
    let w : AnswerMailslotReturns a.image.now a.caller a.message.now a.reply.now c.from_residual.result × AnswerMailslotLeaves a.image.now a.caller a.message.now a.reply.now a.reply.now =
    answer_promised _ _ (refused ∙ given.0, given.1) in
    record { answer_mailslot_returns = w.0; answer_mailslot_leaves = w.1 }
