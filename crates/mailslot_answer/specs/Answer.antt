-- Document 02, #105: what `answer_mailslot` promises to return, and to leave in the buffer.
use Rattle.std.specs.Prelude.{List, ℕ}
use Rattle.answers.specs.Try.{Try}
use Rattle.locator.specs.{declared.Answered.Answered, Answer.AnswerReturns, Answer.AnswerLeaves}
use Rattle.mailslot_answer.specs.Ping.{mailslot_ping}
use Rattle.table.specs.declared.Caller.{Caller}

abbrev pub AnswerMailslotReturns : List ℕ → Caller → List ℕ → List ℕ → Try Answered → Type 0
AnswerMailslotReturns = AnswerReturns mailslot_ping

abbrev pub AnswerMailslotLeaves : List ℕ → Caller → List ℕ → List ℕ → List ℕ → Type 0
AnswerMailslotLeaves = AnswerLeaves mailslot_ping
