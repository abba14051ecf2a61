-- Document 02, #105: a reader and a writer, "reading back what was written". The statements.
use Rattle.std.specs.Prelude.{◌≡◌, List, ℕ, take, Ok}
use Rattle.answers.specs.Try.{Try}
use Rattle.mailslot.specs.{declared.message.Message.Message, Message.message_in, Message.message_for, Read.ReadMessagePromise}
use Rattle.mailslot_write.specs.Write.{WriteMessageReturns, WriteMessageLeaves}
use Rattle.octets.specs.Stretch.{stretch_of}

-- the same message: the same numbers, and the same octets of each text
pub record SameMessage (s : List ℕ) (q : Message) (source : List ℕ) (m : Message) : Type 0 where
  pub repeat : q.repeat ≡ m.repeat
  pub computer : stretch_of s q.computer ≡ stretch_of source m.computer
  pub user : stretch_of s q.user ≡ stretch_of source m.user
  pub mailslot : stretch_of s q.mailslot ≡ stretch_of source m.mailslot
  pub bits : q.bits ≡ m.bits
  pub sid : stretch_of s q.sid ≡ stretch_of source m.sid
  pub version : q.version ≡ m.version

-- of the definitions: for all messages and rooms where the writer refuses nothing, its octets read back to the same message
abbrev pub RoundTrip : Type 0
RoundTrip =
    (source : List ℕ) (m : Message) (room : ℕ) (octets : List ℕ) → message_for source m room ≡ Ok octets
    → (q : Message) × (message_in octets ≡ Ok q) × SameMessage octets q source m

-- of the two calls, by what their contracts ensure: where `write_message` answers with a length, `read_message` of that many octets of the buffer gives the same message
abbrev pub CallsRoundTrip : Type 0
CallsRoundTrip =
    (source : List ℕ) (m : Message) (before after : List ℕ) (w : Try ℕ) (n : ℕ) (r : Try Message)
    → WriteMessageReturns source m before w
    → WriteMessageLeaves source m before after
    → w ≡ Ok n
    → ReadMessagePromise (take n after) r
    → (q : Message) × (r ≡ Ok q) × SameMessage (take n after) q source m
