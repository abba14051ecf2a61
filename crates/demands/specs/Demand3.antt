-- Demand 3: of every answer, each name of the reply, walked from where the layout places it, is read back as exactly its labels, with few pointers;
-- and `read_reply` accepts the reply, and has each name from that octet, with its length, and counts as the walk does. By what the calls ensure, and the definitions.
use Rattle.std.specs.Prelude.{◌≡◌, List, [], ℕ, ◌<◌, ◌≤◌, min, length, get_or, Ok, Option, None, Some}
use Rattle.answers.specs.{declared.Form.Form, Try.Try}
use Rattle.answers.specs.declared.Form.TheVariants.{Nt40, Response, Ex}
use Rattle.names.specs.{Walk.WalkedName, Walk.walk, WalkRelation.Walks}
use Rattle.octets.specs.Label as label
use Rattle.reader.specs.ReaderWalks.{written_out}
use Rattle.reader_forms.specs.{declared.reading.Fields.Fields, declared.reading.Reading.Reading, Reading.no_name, Reading.ReadReplyPromise, Settled.names_read}
use Rattle.reader_forms.specs.Settled.{last_read}
use Rattle.reader_names.specs.{declared.NameAt.NameAt, Name.name_as}
use Rattle.reader_text.specs.{declared.NameText.NameText, Text.text_given, Text.NameTextPromise}
use Rattle.reply.specs.Reply.{Reply, response_names, ex_names}
use Rattle.demands.specs.Derivation.{ReplyIs, EveryAnswerOver, EveryReply}
use Rattle.demands.specs.Places.{name_start, last_start}

-- the own octets of the names of a form, in their places: NT40 has no names
abbrev pub names_of : Form → Reply → List (List ℕ)
names_of Nt40 r = []
names_of Response r = response_names r
names_of Ex r = ex_names r

-- name 8, of the EX form alone, where it is written
abbrev pub last_of : Form → Reply → Option (List ℕ)
last_of Nt40 r = None
last_of Response r = None
last_of Ex r = r.next_site_lem

-- one name, at place k, with its first octet at `start` and its own octets `text`: the walk from there
pub record NameWalked (s : List ℕ) (start k : ℕ) (text : List ℕ) : Type 0 where
  pub name : WalkedName
  pub found : walk s start ≡ Some name
  pub reads : name.labels ≡ label.labels text
  pub joins : label.joined name.labels ≡ text
  pub few : name.pointers ≤ min k (length (label.labels text))

-- and as the reading has it, and as `name_text` gives it from there
pub record NameReported (s : List ℕ) (start k : ℕ) (text : List ℕ) (given : NameAt) : Type 0 where
  pub walked : NameWalked s start k text
  pub placed : given.start ≡ start
  pub sized : given.len ≡ length text
  pub counted : given.pointers ≡ walked.name.pointers
  pub told : (t : NameText) → NameTextPromise s start t → text_given t ≡ text

-- this holds of a name and of what is given for it, which is there exactly where the name is written
abbrev pub WhereWritten : {A : Type 0} → (List ℕ → A → Type 0) → Option (List ℕ) → Option A → Type 0
WhereWritten P None None = Unit {0}
WhereWritten P None (Some n) = ⊥
WhereWritten P (Some text) None = ⊥
WhereWritten P (Some text) (Some n) = P text n

-- a reading of a reply r in its form, whose octets are s: it accepts the reply with its length, and every name is walked
pub record ReadingWalked (form : Form) (v : ℕ) (r : Reply) (s : List ℕ) (len : ℕ) (given : Try Reading) : Type 0 where
  pub read : Fields
  pub accepted : given ≡ Ok (record { length = len; fields = read })
  pub many : length (names_read read) ≡ length (names_of form r)
  pub names : (k : ℕ) → k < length (names_of form r) → NameReported s (name_start form s k) k (get_or (names_of form r) k []) (get_or (names_read read) k (name_as no_name))
  pub last : WhereWritten (NameReported s (last_start v s) 8) (last_of form r) (last_read read)

-- whatever `read_reply` returns of the octets, told the form and v
abbrev pub ReadsWalked : Form → ℕ → Reply → List ℕ → ℕ → Type 0
ReadsWalked form v r s len = (given : Try Reading) → ReadReplyPromise s form v given → ReadingWalked form v r s len given

abbrev pub Demand3Over : Type 0
Demand3Over = EveryAnswerOver (ReplyIs (λ form v r s. ReadsWalked form v r s (length s)))

-- of the octets that an answering call leaves in the buffer
abbrev pub Demand3Calls : Type 0
Demand3Calls = EveryReply ReadsWalked

-- Document 01, "What the promises settle": the reader is proved against the walk. Whatever octets are received, where `read_reply` accepts them, each name of its
-- reading is the walk's from its first offset: the length of its labels joined by dots, its count, and the octets that `name_text` gives from there.
pub record NameIsWalk (s : List ℕ) (n : NameAt) : Type 0 where
  pub name : WalkedName
  pub found : walk s n.start ≡ Some name
  pub sized : n.len ≡ length (label.joined name.labels)
  pub counted : n.pointers ≡ name.pointers
  pub told : (t : NameText) → NameTextPromise s n.start t → (t.len ≡ Ok n.len) × (text_given t ≡ label.joined name.labels)

abbrev pub ReadingWalks : Type 0
ReadingWalks =
    (s : List ℕ) (form : Form) (v len : ℕ) (read : Fields)
    → ReadReplyPromise s form v (Ok (record { length = len; fields = read }))
    → ((k : ℕ) → k < length (names_read read) → NameIsWalk s (get_or (names_read read) k (name_as no_name))) × ((n : NameAt) → last_read read ≡ Some n → NameIsWalk s n)

-- and the other half: every name of the walk that keeps to the reader's two limits `name_text` gives
abbrev pub WalkTold : Type 0
WalkTold =
    (s : List ℕ) (at c next : ℕ) (ls : List (List ℕ)) (t : NameText)
    → Walks s at at ls c next → length (written_out ls) ≤ 255 → c ≤ 16 → NameTextPromise s at t
    → (t.len ≡ Ok (length (label.joined ls))) × (text_given t ≡ label.joined ls)
