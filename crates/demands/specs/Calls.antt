-- What the public calls that write promise, together: what is returned, and the octets of the lent buffer before and after. Each part is the contract's own
-- words, as the other calls' promises are, which stand beside the definitions that they cite.
use Rattle.std.specs.Prelude.{List, ℕ}
use Rattle.filter.specs.declared.request.Request.{Request}
use Rattle.answers.specs.Try.{Try}
use Rattle.filter_write.specs.Write.{WriteFilterReturns, WriteFilterLeaves}
use Rattle.locator.specs.{declared.Answered.Answered, Answer.AnswerReturns, Answer.AnswerLeaves}
use Rattle.filter_read.specs.Value.{Ping, ping_from}
use Rattle.mailslot.specs.declared.message.Message.{Message}
use Rattle.mailslot_answer.specs.Ping.{mailslot_ping}
use Rattle.mailslot_write.specs.Write.{WriteMessageReturns, WriteMessageLeaves}
use Rattle.table.specs.declared.Caller.{Caller}

pub record WriteFilterPromise (source : List ℕ) (request : Request) (before after : List ℕ) (r : Try ℕ) : Type 0 where
  pub returned : WriteFilterReturns source request before r
  pub left : WriteFilterLeaves source request before after

pub record WriteMessagePromise (source : List ℕ) (message : Message) (before after : List ℕ) (r : Try ℕ) : Type 0 where
  pub returned : WriteMessageReturns source message before r
  pub left : WriteMessageLeaves source message before after

-- of a call that answers, by its way in
pub record AnswerPromise (way : List ℕ → Try Ping) (image : List ℕ) (caller : Caller) (octets before after : List ℕ) (r : Try Answered) : Type 0 where
  pub returned : AnswerReturns way image caller octets before r
  pub left : AnswerLeaves way image caller octets before after

abbrev pub AnswerPingPromise : List ℕ → Caller → List ℕ → List ℕ → List ℕ → Try Answered → Type 0
AnswerPingPromise = AnswerPromise ping_from

abbrev pub AnswerMailslotPromise : List ℕ → Caller → List ℕ → List ℕ → List ℕ → Try Answered → Type 0
AnswerMailslotPromise = AnswerPromise mailslot_ping
