-- Document 02, #105: what reading a mailslot message gives, the message, number 0, or 41.
use Rattle.std.specs.Prelude.{◌≡◌, List, ℕ}
use Rattle.answers.specs.Try.{Try, number_of, value_of}
use Rattle.mailslot.specs.{declared.message.Message.Message, Message.message_in}

-- what `read_message` promises: the answer, with its number and the message, none with a refusal
pub record ReadMessagePromise (octets : List ℕ) (r : Try Message) : Type 0 where
  pub same : r ≡ message_in octets
  pub numbered : number_of r ≡ number_of (message_in octets)
  pub given : value_of r ≡ value_of (message_in octets)
