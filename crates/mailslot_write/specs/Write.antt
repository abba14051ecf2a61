-- Document 02, #105: what `write_message` promises to return, and to leave in the buffer.
use Rattle.std.specs.Prelude.{◌≡◌, List, ℕ, length}
use Rattle.answers.specs.{Try.Try, Written.written_octets, Written.WrittenOf}
use Rattle.mailslot.specs.{declared.message.Message.Message, Message.message_for}
use Rattle.octets.specs.Buffer.{over}

abbrev pub WriteMessageReturns : List ℕ → Message → List ℕ → Try ℕ → Type 0
WriteMessageReturns source m before = WrittenOf (message_for source m (length before))

abbrev pub WriteMessageLeaves : List ℕ → Message → List ℕ → List ℕ → Type 0
WriteMessageLeaves source m before after = after ≡ over (written_octets (message_for source m (length before))) before
