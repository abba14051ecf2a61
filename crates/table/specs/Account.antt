-- Document 01, "The table image", kind 4: an account, and its fields' offsets in the record.
use Rattle.std.specs.Prelude.{List, ℕ}
use Rattle.octets.specs.{NameRule.user_name_most, Number.u16_at, Number.u32_at}
use Rattle.table.specs.{declared.ContextNumber.ContextNumber, declared.field.TextField.TextField, declared.record.RecordFormat.RecordFormat}
use Rattle.table.specs.{Countings.context_number, Field.text_at}

abbrev pub account_format : RecordFormat
account_format = record { kind = 4; count = 6; width = 84 }

-- control is its bits, coded as MS-SAMR 2.2.1.12
pub record Account : Type 0 where
  pub context : ContextNumber
  pub control : ℕ
  pub name : List ℕ

abbrev pub control_offset : ℕ
control_offset = 4

abbrev pub account_name : TextField
account_name = record { offset = 8; room = user_name_most }

unfoldable pub account_of : List ℕ → Account
account_of r = record { context = context_number (u16_at r 0); control = u32_at r control_offset; name = text_at r account_name }
