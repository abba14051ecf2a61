-- Document 02, #105: a mailslot message as the members of C's struct: repeat count, account bits and version; then, of computer, user, mailslot and SID each, whether
-- it is present, its start and its length.
use Rattle.std.specs.Prelude.{Bool, true, false, List, [], ◌∷◌, ◌++◌, ℕ, ◌+◌, eqb, get_or, Ok, Err}
use Rattle.c_reading.specs.Reading.{absent, text_members}
use Rattle.answers.specs.Try.{Try}
use Rattle.mailslot.specs.declared.message.Message.{Message}
use Rattle.mailslot_write.specs.RoundTrip.{SameMessage}
use Rattle.octets.specs.declared.part.Stretch.{Stretch}

abbrev pub stretch_unless : Bool → ℕ → ℕ → Stretch
stretch_unless true start len = record { start = 0; len = 0 }
stretch_unless false start len = record { start = start; len = len }

-- the stretch whose members start at a place: 0 is not present, any other number present; what is not present has no octets
abbrev pub stretch_at : List ℕ → ℕ → Stretch
stretch_at members at = stretch_unless (eqb (get_or members at 0) 0) (get_or members (at + 1) 0) (get_or members (at + 2) 0)

-- the message that a caller's members make: a number past its field's width stays so, and makes the message no good one
abbrev pub message_of : List ℕ → Message
message_of members =
    record {
      repeat = get_or members 0 0;
      computer = stretch_at members 3;
      user = stretch_at members 6;
      mailslot = stretch_at members 9;
      bits = get_or members 1 0;
      sid = stretch_at members 12;
      version = get_or members 2 0;
    }

abbrev pub sid_unless : Bool → Stretch → List ℕ
sid_unless true t = absent 3
sid_unless false t = text_members t

-- what reading a message gives: a SID of no octets is not present, the other texts always are; with a refusal all are 0
abbrev pub message_members : Try Message → List ℕ
message_members (Ok m) =
    (m.repeat ∷ m.bits ∷ m.version ∷ [])
    ++ text_members m.computer
    ++ text_members m.user
    ++ text_members m.mailslot
    ++ sid_unless (eqb m.sid.len 0) m.sid
message_members (Err r) = absent 15

-- a message that was read can be handed on: its members make one with the same numbers, and with the same octets in whatever the stretches speak of
abbrev pub MessageHandedOn : Type 0
MessageHandedOn = (source : List ℕ) (m : Message) → SameMessage source (message_of (message_members (Ok m))) source m
