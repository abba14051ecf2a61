-- Document 02, #105, and source page 001: messages octet by octet, by the sizes of their texts, and what they are read to.
use Rattle.std.specs.Prelude.{◌≡◌, ℕ, ◌+◌, ◌*◌, replicate, Ok, Err}
use mathlib.Core.List.{List, [], ◌∷◌, ◌++◌, map, flat_map}
use Rattle.answers.specs.declared.Refusal.TheVariants.{MailslotShape}
use Rattle.answers.specs.Try.{Try}
use Rattle.mailslot.specs.{declared.message.Message.Message, Message.message_in}
use Rattle.octets.specs.declared.part.Stretch.{Stretch}

-- so many units of the computer and of the user, octets of the mailslot's name and of padding, and parts of the SID
abbrev pub Sizes : Type 0
Sizes = ℕ × ℕ × ℕ × ℕ × ℕ

-- ASCII letters as units, and the zero unit
abbrev pub letters : ℕ → ℕ → List ℕ
letters n x = flat_map (λ y. y ∷ 0 ∷ []) (replicate n x) ++ (0 ∷ 0 ∷ [])

-- opcode 18, repeat 7, the texts, bits 10h, the SID's size, padding of FFh, the SID, version 6, the two tokens
abbrev pub octets_of_sizes : Sizes → List ℕ
octets_of_sizes (computer, user, name, padding, parts) =
    (0x12 ∷ 0 ∷ 7 ∷ 0 ∷ [])
    ++ letters computer 0x43
    ++ letters user 0x75
    ++ replicate name 0x6D
    ++ (0 ∷ 0x10 ∷ 0 ∷ 0 ∷ 0 ∷ (8 + 4 * parts) ∷ 0 ∷ 0 ∷ 0 ∷ [])
    ++ replicate padding 0xFF
    ++ (1 ∷ parts ∷ replicate (6 + 4 * parts) 9)
    ++ (6 ∷ 0 ∷ 0 ∷ 0 ∷ 0xFF ∷ 0xFF ∷ 0xFF ∷ 0xFF ∷ [])

abbrev pub at : ℕ → ℕ → Stretch
at start len = record { start = start; len = len }

abbrev pub message_of : Stretch → Stretch → Stretch → Stretch → Try Message
message_of computer user name sid = Ok (record { repeat = 7; computer = computer; user = user; mailslot = name; bits = 0x10; sid = sid; version = 6 })

-- the longest, of 316 octets; then each limit passed alone, a SID of 16 parts, padding counted from after the opcode, and each size of padding
abbrev pub messages : List Sizes
messages =
    (15, 63, 64, 3, 15)
    ∷ (16, 63, 64, 1, 15)
    ∷ (15, 64, 64, 1, 15)
    ∷ (15, 63, 65, 2, 15)
    ∷ (15, 63, 64, 3, 16)
    ∷ (15, 63, 64, 1, 15)
    ∷ (0, 0, 3, 0, 1)
    ∷ (0, 1, 2, 3, 1)
    ∷ (0, 0, 1, 2, 1)
    ∷ (1, 0, 0, 1, 1)
    ∷ []

abbrev pub MessagesRead : Type 0
MessagesRead =
    map (λ sizes. message_in (octets_of_sizes sizes)) messages
    ≡ message_of (at 4 30) (at 36 126) (at 164 64) (at 240 68)
    ∷ Err MailslotShape
    ∷ Err MailslotShape
    ∷ Err MailslotShape
    ∷ Err MailslotShape
    ∷ Err MailslotShape
    ∷ message_of (at 4 0) (at 6 0) (at 8 3) (at 20 12)
    ∷ message_of (at 4 0) (at 6 2) (at 10 2) (at 24 12)
    ∷ message_of (at 4 0) (at 6 0) (at 8 1) (at 20 12)
    ∷ message_of (at 4 2) (at 8 0) (at 10 0) (at 20 12)
    ∷ []
