-- Document 01, "Reading a reply": the reader, a function of a reply's octets, the form and the version bits asked.
use Rattle.std.specs.Prelude.{Bool, true, false, not, ◌&&◌, List, [], ◌∷◌, ℕ, zero, suc, ◌-◌, eqb, leb, length, Ok, Err, Option, None, Some}
use Rattle.answers.specs.declared.Form.{Form}
use Rattle.answers.specs.declared.Form.TheVariants.{Nt40, Response, Ex}
use Rattle.answers.specs.declared.Refusal.TheVariants.{ReplyOpcode, ReplyFixed, ReplyLeftOver}
use Rattle.answers.specs.Try.{Try, refused_if, ◌>>=◌}
use Rattle.answers.specs.Wire.{netlogon_nt_version_5ex_with_ip, netlogon_nt_version_with_closest_site, nt40_version, response_version, ex_version, ex_version_with_next_site, Opcodes, older_opcodes, ex_opcodes, is_one_of, Sbz, NullGuid, LmNtToken, Lm20Token, DcSockAddrSize, sin_family, sin_zero}
use Rattle.names.specs.Walk.{WalkedName}
use Rattle.octets.specs.{Label.joined, Sid.guid_size, Sid.ipv4_size}
use Rattle.octets.specs.Number.{little, little_octets, u32_at, has}
use Rattle.octets.specs.declared.part.Stretch.{Stretch}
use Rattle.reader.specs.{Name.read_name, Text.read_text}
use Rattle.reader.specs.declared.field.Read.{Read}
use Rattle.reader.specs.Field.{read_octets, read_stretch, read_fixed}

-- a name as it is given back: its labels joined by dots, with its pointer count; and its first offset
pub record NameRead : Type 0 where
  pub start : ℕ
  pub text : List ℕ
  pub pointers : ℕ

pub record Nt40Fields : Type 0 where
  pub opcode : ℕ
  pub server : Stretch
  pub user : Stretch
  pub domain : Stretch
  pub version : ℕ

pub record ResponseFields : Type 0 where
  pub opcode : ℕ
  pub server : Stretch
  pub user : Stretch
  pub domain : Stretch
  pub guid : Stretch
  pub names : List NameRead
  pub ipv4 : Stretch
  pub flags : ℕ
  pub version : ℕ

pub record ExFields : Type 0 where
  pub opcode : ℕ
  pub flags : ℕ
  pub guid : Stretch
  pub names : List NameRead
  pub ipv4 : Option Stretch
  pub next_site_lem : Option NameRead
  pub version : ℕ

pub data Fields : Type 0 where
  nt40 : Nt40Fields → Fields
  response : ResponseFields → Fields
  ex : ExFields → Fields

-- 32: an opcode that is not of this form
unfoldable pub read_opcode : Opcodes → List ℕ → Try (Read ℕ)
read_opcode codes s = do
  f ← read_octets s 0 2
  let n = little f.value in refused_if (not (is_one_of codes n)) ReplyOpcode (Ok (record { value = n; next = f.next }))

unfoldable pub read_number : List ℕ → ℕ → Try (Read ℕ)
read_number s at = do
  f ← read_octets s at 4
  Ok (record { value = little f.value; next = f.next })

abbrev pub joined_name : ℕ → WalkedName → NameRead
joined_name at n = record { start = at; text = joined n.labels; pointers = n.pointers }

-- n names, one after the other
unfoldable pub read_names : ℕ → List ℕ → ℕ → Try (Read (List NameRead))
read_names zero s at = Ok (record { value = []; next = at })
read_names (suc n) s at = do
  f ← read_name s at
  rest ← read_names n s f.next
  Ok (record { value = joined_name at f.value ∷ rest.value; next = rest.next })

-- a fixed number of w octets
abbrev pub read_constant : ℕ → ℕ → List ℕ → ℕ → Try (Read (List ℕ))
read_constant w n s at = read_fixed s at (little_octets w n)

-- the two tokens, and 35 where octets are left over
unfoldable pub read_tokens : {A : Type 0} → List ℕ → ℕ → A → Try A
read_tokens s at fields = do
  f ← read_constant 2 LmNtToken s at
  g ← read_constant 2 Lm20Token s f.next
  refused_if (not (eqb g.next (length s))) ReplyLeftOver (Ok fields)

-- the opcode and the three texts of the older forms
pub record Opening : Type 0 where
  pub opcode : ℕ
  pub server : Stretch
  pub user : Stretch
  pub domain : Stretch

unfoldable pub read_opening : List ℕ → Try (Read Opening)
read_opening s = do
  o ← read_opcode older_opcodes s
  a ← read_text s o.next
  u ← read_text s a.next
  d ← read_text s u.next
  Ok (record { value = record { opcode = o.value; server = a.value; user = u.value; domain = d.value }; next = d.next })

unfoldable pub read_nt40 : List ℕ → Try Fields
read_nt40 s = do
  o ← read_opening s
  e ← read_constant 4 nt40_version s o.next
  let w = o.value in
      read_tokens s e.next (nt40 (record { opcode = w.opcode; server = w.server; user = w.user; domain = w.domain; version = nt40_version }))

unfoldable pub read_response : List ℕ → Try Fields
read_response s = do
  o ← read_opening s
  g ← read_stretch s o.next guid_size
  z ← read_fixed s g.next NullGuid
  n ← read_names 3 s z.next
  i ← read_stretch s n.next ipv4_size
  f ← read_number s i.next
  e ← read_constant 4 response_version s f.next
  let w = o.value in
      read_tokens s e.next
      (response
      (record { opcode = w.opcode; server = w.server; user = w.user; domain = w.domain; guid = g.value; names = n.value; ipv4 = i.value; flags = f.value; version = response_version }))

-- the address, where v asks for it
unfoldable pub read_address : Bool → List ℕ → ℕ → Try (Read (Option Stretch))
read_address false s at = Ok (record { value = None; next = at })
read_address true s at = do
  a ← read_fixed s at (DcSockAddrSize ∷ [])
  b ← read_constant 4 sin_family s a.next
  i ← read_stretch s b.next ipv4_size
  z ← read_fixed s i.next sin_zero
  Ok (record { value = Some i.value; next = z.next })

-- name 8 is present exactly when the version 8 octets from the end is 15h
unfoldable pub has_next_site : List ℕ → Bool
has_next_site s = leb 8 (length s) && eqb (u32_at s (length s - 8)) ex_version_with_next_site

-- name 8 where it is present, and the version that goes with it
pub record Last : Type 0 where
  pub next_site_lem : Option NameRead
  pub version : ℕ

unfoldable pub read_last : Bool → ℕ → List ℕ → ℕ → Try (Read Last)
read_last false v s at = do
  e ← read_constant 4 ex_version s at
  Ok (record { value = record { next_site_lem = None; version = ex_version }; next = e.next })
read_last true v s at = do
  n ← read_name s at
  e ← read_constant 4 ex_version_with_next_site s n.next
  refused_if (not (has v netlogon_nt_version_with_closest_site)) ReplyFixed (Ok (record { value = record { next_site_lem = Some (joined_name at n.value); version = ex_version_with_next_site }; next = e.next }))

unfoldable pub read_ex : ℕ → List ℕ → Try Fields
read_ex v s = do
  o ← read_opcode ex_opcodes s
  z ← read_constant 2 Sbz s o.next
  f ← read_number s z.next
  g ← read_stretch s f.next guid_size
  n ← read_names 8 s g.next
  i ← read_address (has v netlogon_nt_version_5ex_with_ip) s n.next
  l ← read_last (has_next_site s) v s i.next
  read_tokens s l.next
      (ex
      (record { opcode = o.value; flags = f.value; guid = g.value; names = n.value; ipv4 = i.value; next_site_lem = l.value.next_site_lem; version = l.value.version }))

abbrev pub read_in : Form → ℕ → List ℕ → Try Fields
read_in Nt40 v s = read_nt40 s
read_in Response v s = read_response s
read_in Ex v s = read_ex v s

-- the length that the reader returns: the reply's, or 0 with a refusal
abbrev pub read_length : Try Fields → List ℕ → ℕ
read_length (Err r) s = 0
read_length (Ok f) s = length s
