-- Document 01, "Sample answers": P1 to P12 as one table under one statement, with rows for #101 and #107, and for what no statement else ties to its numbers.
use Rattle.std.specs.Prelude.{◌≡◌, cond, ℕ, ◌+◌, length, take, replicate, Ok, Err, Option, None, Some}
use mathlib.Core.List.{List, [], ◌∷◌, ◌++◌, map, flat_map}
use Rattle.answers.specs.declared.Form.{Form}
use Rattle.answers.specs.declared.Form.TheVariants.{Nt40, Response, Ex}
use Rattle.answers.specs.Try.{Try, number_of}
use Rattle.filter.specs.declared.request.ClauseName.{ClauseName}
use Rattle.filter.specs.declared.request.ClauseName.TheVariants.{DnsDomain, User, Aac, DomainGuid, NtVer}
use Rattle.filter_octets.specs.Octets.{element, equality_for}
use Rattle.names.specs.Walk.{WalkedName, walk}
use Rattle.octets.specs.{Lists.cut, Number.little}
use Rattle.reader.specs.Name.{read_name}
use Rattle.reader.specs.Reader.{Fields, nt40, response, ex, read_in}
use Rattle.reply.specs.Reply.{u16, u32}
use Rattle.table.specs.{Address.address_number, Bits.role_nt4_wanted, declared.Caller.Caller}
use Rattle.table_check.specs.Check.{check_of_lem}
use Rattle.table_find.specs.Find.{in_subnet}
use Rattle.unicode_text.specs.Utf16.{utf16}
use Rattle.locator.specs.Answer.{Outcome, answer_to, answer_as, octets_written, answer_length, answer_context, answer_form}

-- the base table

-- octets with zeros after them, n in all
abbrev pub padded : ℕ → List ℕ → List ℕ
padded n s = take n (s ++ replicate n 0)

-- a text after its length octet, with its room
abbrev pub text : ℕ → List ℕ → List ℕ
text room s = padded (1 + room) (length s ∷ s)

unfoldable pub checked : List ℕ → List ℕ
checked s = let c = check_of_lem s in s ++ u16 c.a ++ u16 c.b

-- block n, of a kind
unfoldable pub block : ℕ → ℕ → List ℕ → List ℕ
block kind n body = checked ((kind ∷ 1 ∷ u16 n) ++ padded 504 body)

unfoldable pub example : List ℕ
example = 0x65 ∷ 0x78 ∷ 0x61 ∷ 0x6D ∷ 0x70 ∷ 0x6C ∷ 0x65 ∷ []

unfoldable pub corp : List ℕ
corp = 0x63 ∷ 0x6F ∷ 0x72 ∷ 0x70 ∷ 0x2E ∷ example

unfoldable pub CORP : List ℕ
CORP = 0x43 ∷ 0x4F ∷ 0x52 ∷ 0x50 ∷ []

unfoldable pub DC1 : List ℕ
DC1 = 0x44 ∷ 0x43 ∷ 0x31 ∷ []

unfoldable pub dc1 : List ℕ
dc1 = 0x64 ∷ 0x63 ∷ 0x31 ∷ 0x2E ∷ corp

unfoldable pub HQ : List ℕ
HQ = 0x48 ∷ 0x51 ∷ []

unfoldable pub ann : List ℕ
ann = 0x61 ∷ 0x6E ∷ 0x6E ∷ []

-- the GUID 01h to 10h
unfoldable pub guid : List ℕ
guid = 0x01 ∷ 0x02 ∷ 0x03 ∷ 0x04 ∷ 0x05 ∷ 0x06 ∷ 0x07 ∷ 0x08 ∷ 0x09 ∷ 0x0A ∷ 0x0B ∷ 0x0C ∷ 0x0D ∷ 0x0E ∷ 0x0F ∷ 0x10 ∷ []

-- the document names no address for the server: this is one
unfoldable pub ipv4 : List ℕ
ipv4 = 192 ∷ 0 ∷ 2 ∷ 1 ∷ []

-- the base table with some roles
unfoldable pub image : ℕ → List ℕ
image roles =
    block 1 0 (u32 roles ++ u32 6 ++ ipv4 ++ u16 1 ++ u16 1 ++ text 15 DC1 ++ text 253 dc1)
    ++ block 2 1 (text 253 example)
    ++ block 3 2 (u16 1 ++ (0 ∷ 0 ∷ []) ++ guid ++ replicate 68 0 ++ text 15 CORP ++ text 253 corp)
    ++ block 4 3 (u16 1 ++ u16 0 ++ u32 0x10 ++ text 63 ann)
    ++ block 5 4 (u16 1 ++ text 63 HQ)

-- pings

pub record Value : Type 0 where
  pub name : ClauseName
  pub octets : List ℕ

-- a filter of clauses inside one AND
unfoldable pub filter : List Value → List ℕ
filter vs = element 0xA0 (flat_map (λ v. equality_for v.name (Some v.octets)) vs)

unfoldable pub version : ℕ → Value
version v = record { name = NtVer; octets = u32 v }

-- the filter that document 01 writes out, for version 6
unfoldable pub six : List ℕ
six = 0xA0 ∷ 0x0F ∷ 0xA3 ∷ 0x0D ∷ 0x04 ∷ 0x05 ∷ 0x4E ∷ 0x74 ∷ 0x56 ∷ 0x65 ∷ 0x72 ∷ 0x04 ∷ 0x04 ∷ 0x06 ∷ 0x00 ∷ 0x00 ∷ 0x00 ∷ []

unfoldable pub caller : Caller
caller = record { address = 192 ∷ 0 ∷ 2 ∷ 77 ∷ [] }

unfoldable pub pings : ℕ → List ℕ → ℕ → Try Outcome
pings roles f room = answer_to (image roles) caller f room

-- what an answer is judged by: its number, length and context, the form (0 none, 1 NT40, 2 RESPONSE, 3 EX), and the opcode, 0 where there is none
abbrev pub form_mark : Option Form → ℕ
form_mark None = 0
form_mark (Some Nt40) = 1
form_mark (Some Response) = 2
form_mark (Some Ex) = 3

unfoldable pub summary : Try Outcome → List ℕ
summary o = let a = answer_as o in number_of a ∷ answer_length a ∷ answer_context a ∷ form_mark (answer_form a) ∷ little (take 2 (octets_written o)) ∷ []

unfoldable pub refusal : ℕ → List ℕ
refusal n = n ∷ 0 ∷ 0 ∷ 0 ∷ 0 ∷ []

-- pointer counts, by the reader and by the walk

abbrev pub counts_in : Fields → List ℕ
counts_in (nt40 f) = []
counts_in (response f) = map (λ n. n.pointers) f.names
counts_in (ex f) = map (λ n. n.pointers) f.names

abbrev pub counts : Try Fields → List ℕ
counts (Err r) = []
counts (Ok f) = counts_in f

-- one more than the count, so that 0 is no name
abbrev pub walked_count : Option WalkedName → ℕ
walked_count None = 0
walked_count (Some n) = 1 + n.pointers

unfoldable pub P1 : List ℕ
P1 =
    0x17 ∷ 0x00 ∷ 0x00 ∷ 0x00 ∷ 0x98 ∷ 0x01 ∷ 0x00 ∷ 0x00 ∷ 0x01 ∷ 0x02 ∷ 0x03 ∷ 0x04 ∷ 0x05 ∷ 0x06 ∷ 0x07 ∷ 0x08 ∷ 0x09 ∷ 0x0A ∷
    0x0B ∷ 0x0C ∷ 0x0D ∷ 0x0E ∷ 0x0F ∷ 0x10 ∷ 0x07 ∷ 0x65 ∷ 0x78 ∷ 0x61 ∷ 0x6D ∷ 0x70 ∷ 0x6C ∷ 0x65 ∷ 0x00 ∷ 0x04 ∷ 0x63 ∷ 0x6F ∷
    0x72 ∷ 0x70 ∷ 0xC0 ∷ 0x18 ∷ 0x03 ∷ 0x64 ∷ 0x63 ∷ 0x31 ∷ 0xC0 ∷ 0x21 ∷ 0x04 ∷ 0x43 ∷ 0x4F ∷ 0x52 ∷ 0x50 ∷ 0x00 ∷ 0x03 ∷ 0x44 ∷
    0x43 ∷ 0x31 ∷ 0x00 ∷ 0x00 ∷ 0x02 ∷ 0x48 ∷ 0x51 ∷ 0x00 ∷ 0xC0 ∷ 0x3A ∷ 0x05 ∷ 0x00 ∷ 0x00 ∷ 0x00 ∷ 0xFF ∷ 0xFF ∷ 0xFF ∷ 0xFF ∷ []

unfoldable pub asks : ℕ → List Value → List ℕ
asks v more = filter (version v ∷ more)

unfoldable pub for_user : List ℕ → Value
for_user s = record { name = User; octets = s }

unfoldable pub for_domain : List ℕ → Value
for_domain s = record { name = DnsDomain; octets = s }

-- a row: what the definitions give, and what the document says is due
pub record Row : Type 0 where
  pub got : List ℕ
  pub due : List ℕ

abbrev pub row : List ℕ → List ℕ → Row
row got due = record { got = got; due = due }

unfoldable pub samples : List Row
samples =
    -- the filter for version 6
    row (asks 6 []) six
    -- P1, whole; its pointer counts by the reader, and by the walk from each name's first octet
    ∷ row (octets_written (pings 0 six 72)) P1
    ∷ row (summary (pings 0 six 72)) (0 ∷ 72 ∷ 1 ∷ 3 ∷ 23 ∷ [])
    ∷ row (counts (read_in Ex 6 P1)) (0 ∷ 1 ∷ 2 ∷ 0 ∷ 0 ∷ 0 ∷ 0 ∷ 1 ∷ [])
    ∷ row (map (λ at. walked_count (walk P1 at)) (24 ∷ 33 ∷ 40 ∷ 46 ∷ 52 ∷ 57 ∷ 58 ∷ 62 ∷ [])) (1 ∷ 2 ∷ 3 ∷ 1 ∷ 1 ∷ 1 ∷ 1 ∷ 2 ∷ [])
    -- P2 and P3
    ∷ row (summary (pings 0 six 71)) (refusal 19)
    ∷ row (summary (pings 0 [] 2000)) (refusal 6)
    -- P4 to P6
    ∷ row (summary (pings 0 (asks 0 []) 2000)) (0 ∷ 30 ∷ 1 ∷ 1 ∷ 19 ∷ [])
    ∷ row (summary (pings 0 (asks 2 []) 2000)) (0 ∷ 92 ∷ 1 ∷ 2 ∷ 19 ∷ [])
    ∷ row (summary (pings 0 (asks 0xA []) 2000)) (0 ∷ 89 ∷ 1 ∷ 3 ∷ 23 ∷ [])
    ∷ row (cut (octets_written (pings 0 (asks 0xA []) 2000)) 64 17) (0x10 ∷ 2 ∷ 0 ∷ 0 ∷ 0 ∷ 192 ∷ 0 ∷ 2 ∷ 1 ∷ replicate 8 0)
    -- P7: NT4 wanted
    ∷ row (summary (pings role_nt4_wanted (asks 6 []) 2000)) (0 ∷ 30 ∷ 1 ∷ 1 ∷ 19 ∷ [])
    ∷ row (summary (pings role_nt4_wanted (asks 0x01000006 []) 2000)) (0 ∷ 72 ∷ 1 ∷ 3 ∷ 23 ∷ [])
    -- P8: a GUID clause of sixteen zeros
    ∷ row (summary (pings 0 (asks 6 (record { name = DomainGuid; octets = replicate 16 0 } ∷ [])) 2000)) (refusal 12)
    -- P9: without and with AAC
    ∷ row (summary (pings 0 (asks 6 (for_user ann ∷ [])) 2000)) (0 ∷ 76 ∷ 1 ∷ 3 ∷ 25 ∷ [])
    ∷ row (summary (pings 0 (asks 6 (for_user ann ∷ record { name = Aac; octets = u32 0x10 } ∷ [])) 2000)) (0 ∷ 76 ∷ 1 ∷ 3 ∷ 23 ∷ [])
    -- P10: an empty user, and none
    ∷ row (summary (pings 0 (asks 6 (for_user [] ∷ [])) 2000)) (0 ∷ 72 ∷ 1 ∷ 3 ∷ 25 ∷ [])
    ∷ row (summary (pings 0 (asks 6 []) 2000)) (0 ∷ 72 ∷ 1 ∷ 3 ∷ 23 ∷ [])
    -- P11: a..b
    ∷ row (summary (pings 0 (asks 6 (for_user (0x61 ∷ 0x2E ∷ 0x2E ∷ 0x62 ∷ []) ∷ [])) 2000)) (refusal 18)
    ∷ row (summary (pings 0 (asks 2 (for_user (0x61 ∷ 0x2E ∷ 0x2E ∷ 0x62 ∷ []) ∷ [])) 2000)) (0 ∷ 100 ∷ 1 ∷ 2 ∷ 21 ∷ [])
    -- P12: the check of 508 zero octets
    ∷ row (let c = check_of_lem (replicate 508 0) in u16 c.a ++ u16 c.b) (0x01 ∷ 0x00 ∷ 0xFC ∷ 0x01 ∷ [])
    -- #101: no NtVer
    ∷ row (summary (pings 0 (filter (for_domain corp ∷ [])) 2000)) (0 ∷ 30 ∷ 1 ∷ 1 ∷ 19 ∷ [])
    -- #107: a DNS name in another case, with a closing dot, with two
    ∷ row (summary (pings 0 (asks 6 (for_domain (CORP ++ (0x2E ∷ example)) ∷ [])) 2000)) (0 ∷ 72 ∷ 1 ∷ 3 ∷ 23 ∷ [])
    ∷ row (summary (pings 0 (asks 6 (for_domain (corp ++ (0x2E ∷ [])) ∷ [])) 2000)) (0 ∷ 72 ∷ 1 ∷ 3 ∷ 23 ∷ [])
    ∷ row (summary (pings 0 (asks 6 (for_domain (corp ++ (0x2E ∷ 0x2E ∷ [])) ∷ [])) 2000)) (refusal 14)
    -- P4 whole, its units low octet first, and the units of U+12345
    ∷ row (octets_written (pings 0 (asks 0 []) 30))
    (0x13 ∷ 0 ∷ 0x44 ∷ 0 ∷ 0x43 ∷ 0 ∷ 0x31 ∷ 0 ∷ 0 ∷ 0 ∷ 0 ∷ 0 ∷ 0x43 ∷ 0 ∷ 0x4F ∷ 0 ∷ 0x52 ∷ 0 ∷ 0x50 ∷ 0 ∷ 0 ∷ 0 ∷ 1 ∷ 0 ∷ 0 ∷ 0 ∷ 0xFF ∷ 0xFF ∷ 0xFF ∷ 0xFF ∷ [])
    ∷ row (utf16 (0xF0 ∷ 0x92 ∷ 0x8D ∷ 0x85 ∷ [])) (0x08 ∷ 0xD8 ∷ 0x45 ∷ 0xDF ∷ [])
    -- a check that tells its octets apart
    ∷ row (let c = check_of_lem (1 ∷ 2 ∷ 3 ∷ []) in c.a ∷ c.b ∷ []) (7 ∷ 13 ∷ [])
    -- 10.1.2.3 is in 10.1.0.0/16, and not in 10.2.0.0/16
    ∷ row (map (λ x. cond (in_subnet (address_number (10 ∷ 1 ∷ 2 ∷ 3 ∷ [])) (record { address = 10 ∷ x ∷ 0 ∷ 0 ∷ []; prefix = 16; site = None })) 1 0) (1 ∷ 2 ∷ [])) (1 ∷ 0 ∷ [])
    -- a label cut short, and the same behind a pointer
    ∷ row (map (λ at. number_of (read_name (5 ∷ 0xC0 ∷ 0 ∷ []) at)) (0 ∷ 1 ∷ [])) (31 ∷ 33 ∷ [])
    ∷ []

abbrev pub SamplesHold : Type 0
SamplesHold = map (λ r. r.got) samples ≡ map (λ r. r.due) samples
