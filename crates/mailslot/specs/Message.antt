-- Document 02, #105, and source page 001: a mailslot message, the request of old logger machines. What it must be, how it is read, and its octets, written.
use Rattle.std.specs.Prelude.{Bool, true, false, cond, not, ◌&&◌, ◌||◌, List, [], ◌∷◌, ◌++◌, ℕ, ◌+◌, ◌*◌, ◌-◌, ◌%◌, eqb, leb, ltb, length, drop, replicate, Ok, Err}
use Rattle.answers.specs.declared.Refusal.TheVariants.{MailslotShape, NoRoom}
use Rattle.answers.specs.Try.{Try, refused_if, ◌>>=◌}
use Rattle.answers.specs.Wire.{logon_sam_logon_request}
use Rattle.octets.specs.{Lists.all, Lists.holds, NameRule.sized, NameRule.without, Number.little, Sid.sid_length, Text.within}
use Rattle.reader.specs.{Reader.read_constant, Reader.read_number, Reader.read_tokens, Text.read_text}
use Rattle.octets.specs.{declared.part.Stretch.Stretch, Stretch.stretch_of}
use Rattle.reader.specs.declared.field.Read.{Read}
use Rattle.reader.specs.Field.{read_octets, read_stretch}
use Rattle.reply.specs.Reply.{u16, u32, ending}
use Rattle.unicode_text.specs.{UserName.is_user_name, Utf16.points_of16, Utf16.utf8_from16}
use Rattle.mailslot.specs.declared.message.Message.{Message}

-- ---- what a message must be

-- a text in UTF-16LE: whole units, no lone surrogate, and no zero unit, which would end it
abbrev pub is_text16 : List ℕ → Bool
is_text16 s = holds (without 0) (points_of16 s)

-- at most 15 units, whatever characters they make
unfoldable pub is_computer_name : List ℕ → Bool
is_computer_name s = is_text16 s && leb (length s) (2 * 15)

-- such a text whose octets as UTF-8 are a user's name: at most 63 of them, none zero
unfoldable pub is_message_user : List ℕ → Bool
is_message_user s = holds is_user_name (utf8_from16 s)

unfoldable pub is_mailslot_name : List ℕ → Bool
is_mailslot_name s = leb (length s) 64 && all (within 0x01 0x7F) s

-- none, or as long as its own count says; its revision is left to 15
unfoldable pub is_message_sid : List ℕ → Bool
is_message_sid s = eqb (length s) 0 || (sized 8 68 s && eqb (length s) (sid_length s))

-- every limit, for reader and writer: of the texts, which are stretches of a source, and of each number by its field
unfoldable pub good_message : List ℕ → Message → Bool
good_message source m =
    ltb m.repeat 0x10000
    && is_computer_name (stretch_of source m.computer)
    && is_message_user (stretch_of source m.user)
    && is_mailslot_name (stretch_of source m.mailslot)
    && ltb m.bits 0x100000000
    && is_message_sid (stretch_of source m.sid)
    && ltb m.version 0x100000000

-- ---- reading

-- what is missing to a multiple of four, counted from the message's first octet
unfoldable pub padding : ℕ → ℕ
padding at = (4 - at % 4) % 4

-- the octets before the first zero octet
unfoldable pub before_zero : List ℕ → List ℕ
before_zero [] = []
before_zero (x ∷ xs) = cond (eqb x 0) [] (x ∷ before_zero xs)

-- the text at `at` that a zero octet ends
unfoldable pub read_zero_ended : List ℕ → ℕ → Try (Read Stretch)
read_zero_ended s at = do
  t ← read_stretch s at (length (before_zero (drop at s)))
  z ← read_octets s t.next 1
  Ok (record { value = t.value; next = z.next })

-- the SID by its size, after the padding; neither where the size is 0
abbrev pub read_sid : Bool → ℕ → List ℕ → ℕ → Try (Read Stretch)
read_sid true size s at = read_stretch s at 0
read_sid false size s at = do
  p ← read_octets s at (padding at)
  read_stretch s p.next size

-- the fields in page 001's order, with nothing left over
unfoldable pub read_fields : List ℕ → Try Message
read_fields s = do
  o ← read_constant 2 logon_sam_logon_request s 0
  n ← read_octets s o.next 2
  c ← read_text s n.next
  u ← read_text s c.next
  m ← read_zero_ended s u.next
  b ← read_number s m.next
  z ← read_number s b.next
  d ← read_sid (eqb z.value 0) z.value s z.next
  v ← read_number s d.next
  read_tokens s v.next
      (record { repeat = little n.value; computer = c.value; user = u.value; mailslot = m.value; bits = b.value; sid = d.value; version = v.value })

-- whatever is refused, it is 41
abbrev pub as_shape : {A : Type 0} → Try A → Try A
as_shape (Err r) = Err MailslotShape
as_shape (Ok a) = Ok a

-- the message that octets are
unfoldable pub message_in : List ℕ → Try Message
message_in s = do
  m ← as_shape (read_fields s)
  refused_if (not (good_message s m)) MailslotShape (Ok m)

-- ---- writing

-- before the SID and its padding
unfoldable pub message_head : List ℕ → Message → List ℕ
message_head source m =
    u16 logon_sam_logon_request
    ++ u16 m.repeat
    ++ stretch_of source m.computer
    ++ u16 0
    ++ stretch_of source m.user
    ++ u16 0
    ++ stretch_of source m.mailslot
    ++ (0 ∷ [])
    ++ u32 m.bits
    ++ u32 (length (stretch_of source m.sid))

-- a SID that starts behind zeros, the padding at its offset; where it has no octets, neither
abbrev pub padded_sid : ℕ → List ℕ → List ℕ
padded_sid at [] = []
padded_sid at (x ∷ xs) = replicate (padding at) 0 ++ x ∷ xs

unfoldable pub message_octets : List ℕ → Message → List ℕ
message_octets source m =
    let head = message_head source m in
    head ++ padded_sid (length head) (stretch_of source m.sid) ++ ending m.version

-- 41, then 19, else the octets; what of a stretch lies outside the source is not there
unfoldable pub message_for : List ℕ → Message → ℕ → Try (List ℕ)
message_for source m room =
    let octets = message_octets source m in
    refused_if (not (good_message source m)) MailslotShape
    (refused_if (ltb room (length octets)) NoRoom (Ok octets))
