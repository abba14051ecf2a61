-- Document 01, "The table image", kind 3: a naming context, and its fields' offsets in the body.
use Rattle.std.specs.Prelude.{Bool, true, false, List, ℕ, eqb, drop, get_or, Option, None, Some}
use Rattle.octets.specs.{Lists.cut, NameRule.netbios_name_most, NameRule.dns_name_most, Number.u16_at, Sid.sid_length, Sid.guid_size}
use Rattle.table.specs.{declared.ContextNumber.ContextNumber, declared.field.TextField.TextField, declared.record.RecordFormat.RecordFormat}
use Rattle.table.specs.{Block.body_size, Countings.context_number, Field.text_at}

-- a context is the whole of its body
abbrev pub context_format : RecordFormat
context_format = record { kind = 3; count = 1; width = body_size }

-- an application context has no SID; others may have none too
pub record Context : Type 0 where
  pub number : ContextNumber
  pub application : Bool
  pub guid : List ℕ
  pub sid : Option (List ℕ)
  pub netbios : List ℕ
  pub dns : List ℕ

abbrev pub application_octet : List ℕ → ℕ
application_octet b = get_or b 2 0

abbrev pub has_sid_octet : List ℕ → ℕ
has_sid_octet b = get_or b 3 0

abbrev pub sid_offset : ℕ
sid_offset = 20

abbrev pub sid_room : ℕ
sid_room = 68

-- the SID in its room, as long as its own count says
abbrev pub sid_at_lem : List ℕ → List ℕ
sid_at_lem b = cut b sid_offset (sid_length (drop sid_offset b))

abbrev pub sid_if : Bool → List ℕ → Option (List ℕ)
sid_if true s = Some s
sid_if false s = None

abbrev pub context_netbios_lem : TextField
context_netbios_lem = record { offset = 88; room = netbios_name_most }

abbrev pub context_dns_name : TextField
context_dns_name = record { offset = 104; room = dns_name_most }

unfoldable pub context_of : List ℕ → Context
context_of b =
    record {
      number = context_number (u16_at b 0);
      application = eqb (application_octet b) 1;
      guid = cut b 4 guid_size;
      sid = sid_if (eqb (has_sid_octet b) 1) (sid_at_lem b);
      netbios = text_at b context_netbios_lem;
      dns = text_at b context_dns_name;
    }
