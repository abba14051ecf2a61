-- Document 01, "Reading a reply": "a name's field, placed by the layout, ends with the walk's first zero or pointer". Where the names of a reply stand, by
-- its form, its octets and the version bits asked alone: a place is the walk's or the layout's, and never the writer's.
use Rattle.std.specs.Prelude.{true, false, cond, List, ℕ, zero, suc, ◌+◌, eqb, length}
use Rattle.answers.specs.declared.Form.{Form}
use Rattle.answers.specs.declared.Form.TheVariants.{Nt40, Response, Ex}
use Rattle.answers.specs.Wire.{netlogon_nt_version_5ex_with_ip, NullGuid, DcSockAddrSize}
use Rattle.names.specs.Walk.{look_at, on_look}
use Rattle.octets.specs.{Number.u16_at, Number.has, Sid.guid_size}

-- where the field of a name at `at` ends, k steps at most: after the first zero or pointer. Where there is neither there is no name, and no end to ask for
unfoldable pub field_end_from : ℕ → List ℕ → ℕ → ℕ
field_end_from zero s at = at
field_end_from (suc k) s at = on_look (look_at s at) (at + 1) (λ n. field_end_from k s (at + 1 + n)) (λ t. at + 2) at at

unfoldable pub field_end : List ℕ → ℕ → ℕ
field_end s at = field_end_from (length s) s at

-- where the field of a UTF-16 text at `at` ends, k units at most: after the first zero unit
unfoldable pub text_end_from : ℕ → List ℕ → ℕ → ℕ
text_end_from zero s at = at
text_end_from (suc k) s at = elim (eqb (u16_at s at) 0) [ true ↦ at + 2 | false ↦ text_end_from k s (at + 2) ]

unfoldable pub text_end : List ℕ → ℕ → ℕ
text_end s at = text_end_from (suc (length s)) s at

-- the first octet of the names. NT40 has none; RESPONSE: after the opcode, three texts, the GUID and 16 zeros; EX: after the opcode, a u16, the flags and the GUID
abbrev pub names_start : Form → List ℕ → ℕ
names_start Nt40 s = length s
names_start Response s = text_end s (text_end s (text_end s 2)) + guid_size + length NullGuid
names_start Ex s = 2 + 2 + 4 + guid_size

-- the first octet of the name at a place: the first name's, or where the field of the name before it ends
unfoldable pub name_start : Form → List ℕ → ℕ → ℕ
name_start form s zero = names_start form s
name_start form s (suc k) = field_end s (name_start form s k)

-- the address of an EX, if v has 8: an octet for its size, and as many octets
abbrev pub address_size : ℕ → ℕ
address_size v = cond (has v netlogon_nt_version_5ex_with_ip) (1 + DcSockAddrSize) 0

-- the first octet of name 8, which EX alone may have: after the names at places 0 to 7 and the address
abbrev pub last_start : ℕ → List ℕ → ℕ
last_start v s = name_start Ex s 8 + address_size v
