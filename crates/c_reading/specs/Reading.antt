-- A reading as the members of C's struct: its length, opcode and version; then, each behind the mark of its presence, the flags, where GUID and address
-- start, three texts and nine names. With a refusal all are 0.
use Rattle.std.specs.Prelude.{List, [], ◌∷◌, ◌++◌, ℕ, replicate, Ok, Err, Option, None, Some}
use Rattle.answers.specs.Try.{Try}
use Rattle.octets.specs.declared.part.Stretch.{Stretch}
use Rattle.reader_names.specs.declared.NameAt.{NameAt}
use Rattle.reader_forms.specs.{declared.reading.Fields.Fields, declared.reading.Reading.Reading}
use Rattle.reader_forms.specs.declared.reading.Fields.TheVariants as fields

-- what is not present: so many members of 0
abbrev pub absent : ℕ → List ℕ
absent n = replicate n 0

abbrev pub number_members : ℕ → List ℕ
number_members n = 1 ∷ n ∷ []

abbrev pub text_members : Stretch → List ℕ
text_members t = 1 ∷ t.start ∷ t.len ∷ []

abbrev pub name_members : NameAt → List ℕ
name_members n = 1 ∷ n.start ∷ n.len ∷ n.pointers ∷ []

abbrev pub address_members : Option Stretch → List ℕ
address_members None = absent 2
address_members (Some t) = number_members t.start

abbrev pub next_site_members : Option NameAt → List ℕ
next_site_members None = absent 4
next_site_members (Some n) = name_members n

-- opcode and version; flags, GUID, address; three texts; nine names
abbrev pub fields_members : Fields → List ℕ
fields_members (fields.Nt40 f) =
    (f.opcode ∷ f.version ∷ []) ++ absent 6 ++ text_members f.server ++ text_members f.user ++ text_members f.domain ++ absent 36
fields_members (fields.Response f) =
    (f.opcode ∷ f.version ∷ [])
    ++ number_members f.flags
    ++ number_members f.guid.start
    ++ number_members f.ipv4.start
    ++ text_members f.server
    ++ text_members f.user
    ++ text_members f.domain
    ++ name_members f.forest
    ++ name_members f.context
    ++ name_members f.host
    ++ absent 24
fields_members (fields.Ex f) =
    (f.opcode ∷ f.version ∷ [])
    ++ number_members f.flags
    ++ number_members f.guid.start
    ++ address_members f.ipv4
    ++ absent 9
    ++ name_members f.forest
    ++ name_members f.context
    ++ name_members f.host
    ++ name_members f.context_netbios
    ++ name_members f.server_netbios
    ++ name_members f.user
    ++ name_members f.own_site
    ++ name_members f.client_site
    ++ next_site_members f.next_site

abbrev pub reading_members : Try Reading → List ℕ
reading_members (Ok read) = read.length ∷ fields_members read.fields
reading_members (Err r) = absent 54
