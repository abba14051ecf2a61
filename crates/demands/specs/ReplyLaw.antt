-- The reply law: of every answer, the reader, given the reply's octets, its form and the version bits asked, accepts the reply with its length
-- and gives back the texts and numbers that went in.
use Rattle.std.specs.Prelude.{◌≡◌, Bool, true, false, List, map, ℕ, length, Ok, Option, None, Some, option_map}
use Rattle.answers.specs.{declared.Form.Form, Try.Try}
use Rattle.answers.specs.declared.Form.TheVariants.{Nt40, Response, Ex}
use Rattle.answers.specs.Wire.{nt40_version, response_version, ex_version, ex_version_with_next_site}
use Rattle.unicode_text.specs.{Utf8.is_utf8, Utf16.utf16}
use Rattle.octets.specs.Stretch.{stretch_of}
use Rattle.reader.specs.Reader.{NameRead, Nt40Fields, ResponseFields, ExFields, Fields, nt40, response, ex, read_in, read_length}
use Rattle.reply.specs.Reply.{Reply, response_names, ex_names}
use Rattle.demands.specs.Derivation.{ReplyIs, EveryAnswerOver, EveryAnswer}

abbrev pub text_of : NameRead → List ℕ
text_of n = n.text

-- octets that give a text back: they are the text's in UTF-16LE, and it is the one text that is UTF-8 and has them
pub record TextBack (text octets : List ℕ) : Type 0 where
  pub units : octets ≡ utf16 text
  pub utf8 : is_utf8 text ≡ true
  pub only : (other : List ℕ) → is_utf8 other ≡ true → octets ≡ utf16 other → other ≡ text

-- the address, exactly where it was written
abbrev pub address_written : Reply → Bool → Option (List ℕ)
address_written r true = Some r.ipv4
address_written r false = None

-- the version of an EX, by name 8
abbrev pub version_written : Option (List ℕ) → ℕ
version_written None = ex_version
version_written (Some text) = ex_version_with_next_site

pub record Nt40Back (r : Reply) (s : List ℕ) (f : Nt40Fields) : Type 0 where
  pub opcode : f.opcode ≡ r.opcode
  pub server : TextBack r.server (stretch_of s f.server)
  pub user : TextBack r.user (stretch_of s f.user)
  pub domain : TextBack r.netbios (stretch_of s f.domain)
  pub version : f.version ≡ nt40_version

pub record ResponseBack (r : Reply) (s : List ℕ) (f : ResponseFields) : Type 0 where
  pub opcode : f.opcode ≡ r.opcode
  pub server : TextBack r.server (stretch_of s f.server)
  pub user : TextBack r.user (stretch_of s f.user)
  pub domain : TextBack r.netbios (stretch_of s f.domain)
  pub guid : stretch_of s f.guid ≡ r.guid
  pub names : map text_of f.names ≡ response_names r
  pub ipv4 : stretch_of s f.ipv4 ≡ r.ipv4
  pub flags : f.flags ≡ r.flags
  pub version : f.version ≡ response_version

pub record ExBack (r : Reply) (s : List ℕ) (f : ExFields) : Type 0 where
  pub opcode : f.opcode ≡ r.opcode
  pub flags : f.flags ≡ r.flags
  pub guid : stretch_of s f.guid ≡ r.guid
  pub names : map text_of f.names ≡ ex_names r
  pub ipv4 : option_map (stretch_of s) f.ipv4 ≡ address_written r r.with_address_lem
  pub next_site_lem : option_map text_of f.next_site_lem ≡ r.next_site_lem
  pub version : f.version ≡ version_written r.next_site_lem

-- what is read of a reply r in its form, whose octets are s, gives back what went in
abbrev pub GivenBack : Form → Reply → List ℕ → Try Fields → Type 0
GivenBack Nt40 r s read = (f : Nt40Fields) × (read ≡ Ok (nt40 f)) × Nt40Back r s f
GivenBack Response r s read = (f : ResponseFields) × (read ≡ Ok (response f)) × ResponseBack r s f
GivenBack Ex r s read = (f : ExFields) × (read ≡ Ok (ex f)) × ExBack r s f

-- a reply r in its form, whose octets are s, read back
abbrev pub ReadBack : Form → ℕ → Reply → List ℕ → Type 0
ReadBack form v r s = GivenBack form r s (read_in form v s) × (read_length (read_in form v s) s ≡ length s)

abbrev pub ReplyLawOver : Type 0
ReplyLawOver = EveryAnswerOver (ReplyIs ReadBack)

abbrev pub ReplyLaw : Type 0
ReplyLaw = EveryAnswer (ReplyIs ReadBack)
