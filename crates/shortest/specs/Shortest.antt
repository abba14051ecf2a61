-- Document 02, #113: no reply "with the same fields and names in the same order is shorter, among all in which each name is written as labels ended by a
-- zero octet or by one pointer to a literally written label of an earlier name". First these replies, by that sentence alone; then what holds of them.
use Rattle.std.specs.Prelude.{◌≡◌, Bool, true, ℕ, ◌+◌, ◌<◌, ◌≤◌, length, Option, None, Some}
use mathlib.Core.List.{List, [], ◌∷◌, ◌++◌, map, Memᴰ as Among}
use Rattle.answers.specs.declared.Form.{Form}
use Rattle.answers.specs.declared.Form.TheVariants.{Nt40, Response, Ex}
use Rattle.answers.specs.Wire.{response_version, ex_version, ex_version_with_next_site}
use Rattle.names.specs.Walk.{walk}
use Rattle.octets.specs.{Label.labels, Label.joined, Lists.all, NameRule.sized, NameRule.label_most, Number.big_octets}
use Rattle.reply.specs.Reply.{Reply, u32, ending, nt40_octets, response_head, response_names, ex_head, ex_names, address_if, octets_in}
use Rattle.demands.specs.Derivation.{ReplyIs, EveryAnswerOver, EveryReply}

-- ---- the fields of a reply, in order

-- a field that is no name, with the octets that document 01 fixes; or a name, by its text
pub data Field : Type 0 where
  fixed : List ℕ → Field
  name : List ℕ → Field

-- name 8, where there is one, and the version by it
abbrev pub last_fields : Option (List ℕ) → List Field
last_fields None = fixed (ending ex_version) ∷ []
last_fields (Some text) = name text ∷ fixed (ending ex_version_with_next_site) ∷ []

-- NT40 has no names, so it is one field here
abbrev pub fields_of : Form → Reply → List Field
fields_of Nt40 r = fixed (nt40_octets r) ∷ []
fields_of Response r = fixed (response_head r) ∷ (map name (response_names r) ++ (fixed (r.ipv4 ++ u32 r.flags ++ ending response_version) ∷ []))
fields_of Ex r = fixed (ex_head r) ∷ (map name (ex_names r) ++ (fixed (address_if r.with_address_lem r.ipv4) ∷ last_fields r.next_site_lem))

-- ---- the replies that are compared

-- a text and the offset in the reply where it starts: a literally written label with what follows it to the end of its name, or a whole name
pub record Placed : Type 0 where
  pub offset : ℕ
  pub text : List ℕ

-- a pointer: the top two bits set, then 14 bits for an offset below 4000h
abbrev pub pointer_at : ℕ → List ℕ
pointer_at offset = big_octets 2 (0xC000 + offset)

-- A name written at an offset, label by label, after names whose literally written labels are `earlier`: the labels that are left, their octets, and which of
-- them are written literally. It ends with a zero octet where none is left, or anywhere with one pointer: to any of `earlier` from which the text to the end of
-- its name is what is left, case included.
pub data NameWritten (earlier : List Placed) : ℕ → List (List ℕ) → List ℕ → List Placed → Type 0 where
  ended : {at : ℕ} → NameWritten earlier at [] (0 ∷ []) []
  label : {at : ℕ} {l : List ℕ} {ls : List (List ℕ)} {s : List ℕ} {own : List Placed} → NameWritten earlier (at + (1 + length l)) ls s own
      → NameWritten earlier at (l ∷ ls) ((length l ∷ l) ++ s) (record { offset = at; text = joined (l ∷ ls) } ∷ own)
  pointer : {at : ℕ} {ls : List (List ℕ)} {t : Placed} → Among t earlier → t.text ≡ joined ls → t.offset < 0x4000 → NameWritten earlier at ls (pointer_at t.offset) []

-- fields written one after the other at an offset: their octets, and where each name starts
pub data FieldsWritten : List Placed → ℕ → List Field → List ℕ → List Placed → Type 0 where
  done : {earlier : List Placed} {at : ℕ} → FieldsWritten earlier at [] [] []
  field : {earlier places : List Placed} {at : ℕ} {s rest : List ℕ} {fields : List Field} → FieldsWritten earlier (at + length s) fields rest places
      → FieldsWritten earlier at (fixed s ∷ fields) (s ++ rest) places
  named : {earlier own places : List Placed} {at : ℕ} {text s rest : List ℕ} {fields : List Field} → NameWritten earlier at (labels text) s own
      → FieldsWritten (earlier ++ own) (at + length s) fields rest places
      → FieldsWritten earlier at (name text ∷ fields) (s ++ rest) (record { offset = at; text = text } ∷ places)

-- s is one of the replies that say r in a form; its names start at these places
abbrev pub Compared : Form → Reply → List ℕ → List Placed → Type 0
Compared form r s places = FieldsWritten [] 0 (fields_of form r) s places

-- ---- what holds of them

-- a text whose labels have 1 to 63 octets each; the empty text has none
abbrev pub is_name : List ℕ → Bool
is_name text = all (sized 1 label_most) (labels text)

abbrev pub texts_of : List Field → List (List ℕ)
texts_of [] = []
texts_of (fixed s ∷ fields) = texts_of fields
texts_of (name text ∷ fields) = text ∷ texts_of fields

abbrev pub AreNames : Form → Reply → Type 0
AreNames form r = all is_name (texts_of (fields_of form r)) ≡ true

-- the walk from a name's first octet gives its labels, by some number of pointers
abbrev pub Read : List ℕ → Placed → Type 0
Read s n = (pointers : ℕ) × (walk s n.offset ≡ Some (record { labels = labels n.text; pointers = pointers }))

-- a reply says the names of some fields: they start at its places, in order, and each is read back
pub record SaysNames (fields : List Field) (s : List ℕ) (places : List Placed) : Type 0 where
  pub texts : map (λ n. n.text) places ≡ texts_of fields
  pub reads : (n : Placed) → Among n places → Read s n

-- document 01's octets are one of them, where the 14 bits of a pointer reach each; an EX with nine names of 253 octets has 2,344 at the most
abbrev pub DocumentReplyCompared : Type 0
DocumentReplyCompared = (form : Form) (r : Reply) → length (octets_in form r) ≤ 0x4000 → (places : List Placed) × Compared form r (octets_in form r) places

-- none of them is shorter, for any texts whatever that are names
abbrev pub NoneShorter : Type 0
NoneShorter = (form : Form) (r : Reply) → AreNames form r → (other : List ℕ) (places : List Placed) → Compared form r other places → length (octets_in form r) ≤ length other

-- and all of them say the same
abbrev pub AllReadBack : Type 0
AllReadBack = (form : Form) (r : Reply) → AreNames form r → (other : List ℕ) (places : List Placed) → Compared form r other places → SaysNames (fields_of form r) other places

-- and one of them is longer, in either form with names
abbrev pub Longer : Form → Type 0
Longer form = (r : Reply) × AreNames form r × (other : List ℕ) × (places : List Placed) × Compared form r other places × (length (octets_in form r) < length other)

abbrev pub SomeLonger : Type 0
SomeLonger = Longer Response × Longer Ex

-- a reply r in its form, whose octets s are one of these, with none that is shorter, and all say the same
pub record Shortest (form : Form) (v : ℕ) (r : Reply) (s : List ℕ) : Type 0 where
  pub places : List Placed
  pub compared : Compared form r s places
  pub least : (other : List ℕ) (at : List Placed) → Compared form r other at → length s ≤ length other
  pub read_back : (other : List ℕ) (at : List Placed) → Compared form r other at → SaysNames (fields_of form r) other at

-- so of every answer over a table, and of the octets that an answering call leaves
abbrev pub ShortestAnswerOver : Type 0
ShortestAnswerOver = EveryAnswerOver (ReplyIs Shortest)

abbrev pub ShortestCall : Type 0
ShortestCall = EveryReply (λ form v r s len. Shortest form v r s)
