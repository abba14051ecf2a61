-- Document 01, "Reply octets": what a reply says, and its octets in each of the three forms.
use Rattle.std.specs.Prelude.{Bool, true, false, List, [], ◌∷◌, ◌++◌, ℕ, length, Option, None, Some}
use Rattle.answers.specs.declared.Form.{Form}
use Rattle.answers.specs.declared.Form.TheVariants.{Nt40, Response, Ex}
use Rattle.answers.specs.Wire.{nt40_version, response_version, ex_version, ex_version_with_next_site, Sbz, NullGuid, LmNtToken, Lm20Token, DcSockAddrSize, sin_family, sin_zero}
use Rattle.names.specs.Name.{Writing, write_name, write_names}
use Rattle.octets.specs.Number.{little_octets}
use Rattle.unicode_text.specs.Utf16.{utf16}

-- what a reply says, in any form; a text that is absent has no octets. RESPONSE always writes the address, EX with `with_address_lem`; EX alone writes sites
pub record Reply : Type 0 where
  pub opcode : ℕ
  pub flags : ℕ
  pub guid : List ℕ
  pub forest : List ℕ
  pub dns : List ℕ
  pub host : List ℕ
  pub netbios : List ℕ
  pub server : List ℕ
  pub user : List ℕ
  pub own_site_lem : List ℕ
  pub client_site_lem : List ℕ
  pub ipv4 : List ℕ
  pub with_address_lem : Bool
  pub next_site_lem : Option (List ℕ)

abbrev pub u16 : ℕ → List ℕ
u16 = little_octets 2

abbrev pub u32 : ℕ → List ℕ
u32 = little_octets 4

-- a text in UTF-16LE, ended by a zero unit
unfoldable pub text16 : List ℕ → List ℕ
text16 s = utf16 s ++ u16 0

-- the version, and the two tokens that end every reply
unfoldable pub ending : ℕ → List ℕ
ending version = u32 version ++ u16 LmNtToken ++ u16 Lm20Token

-- the opcode and the three texts of the older forms
unfoldable pub opening : Reply → List ℕ
opening r = u16 r.opcode ++ text16 r.server ++ text16 r.user ++ text16 r.netbios

unfoldable pub nt40_octets : Reply → List ℕ
nt40_octets r = opening r ++ ending nt40_version

-- before the names of a RESPONSE
unfoldable pub response_head : Reply → List ℕ
response_head r = opening r ++ r.guid ++ NullGuid

abbrev pub response_names : Reply → List (List ℕ)
response_names r = r.forest ∷ r.dns ∷ r.host ∷ []

unfoldable pub response_octets : Reply → List ℕ
response_octets r =
    let head = response_head r in
    head ++ (write_names [] (length head) (response_names r)).octets ++ r.ipv4 ++ u32 r.flags ++ ending response_version

-- before the names of an EX
unfoldable pub ex_head : Reply → List ℕ
ex_head r = u16 r.opcode ++ u16 Sbz ++ u32 r.flags ++ r.guid

-- the names at places 0 to 7
abbrev pub ex_names : Reply → List (List ℕ)
ex_names r = r.forest ∷ r.dns ∷ r.host ∷ r.netbios ∷ r.server ∷ r.user ∷ r.own_site_lem ∷ r.client_site_lem ∷ []

abbrev pub address_if : Bool → List ℕ → List ℕ
address_if true ipv4 = (DcSockAddrSize ∷ []) ++ u32 sin_family ++ ipv4 ++ sin_zero
address_if false ipv4 = []

-- name 8, at its offset after what came before it, and the version by it
abbrev pub ex_last : Option (List ℕ) → Writing → ℕ → List ℕ
ex_last None names at = ending ex_version
ex_last (Some text) names at = (write_name names.tails at text).octets ++ ending ex_version_with_next_site

unfoldable pub ex_octets : Reply → List ℕ
ex_octets r =
    let head = ex_head r in
    let names = write_names [] (length head) (ex_names r) in
    let front = head ++ names.octets ++ address_if r.with_address_lem r.ipv4 in
    front ++ ex_last r.next_site_lem names (length front)

abbrev pub octets_in : Form → Reply → List ℕ
octets_in Nt40 = nt40_octets
octets_in Response = response_octets
octets_in Ex = ex_octets
