-- Document 01, "The table image", kind 5: a site, and its fields' offsets in the record.
use Rattle.std.specs.Prelude.{List, ℕ, Option}
use Rattle.octets.specs.{NameRule.site_name_most, Number.u16_at}
use Rattle.table.specs.{declared.SiteNumber.SiteNumber, declared.field.TextField.TextField, declared.record.RecordFormat.RecordFormat}
use Rattle.table.specs.{Countings.site_number, Countings.site_or_none, Field.text_at}

abbrev pub site_format : RecordFormat
site_format = record { kind = 5; count = 7; width = 72 }

-- next is document 01's next closest site
pub record Site : Type 0 where
  pub number : SiteNumber
  pub name : List ℕ
  pub next : Option SiteNumber

abbrev pub site_name : TextField
site_name = record { offset = 2; room = site_name_most }

abbrev pub next_offset : ℕ
next_offset = 66

unfoldable pub site_of : List ℕ → Site
site_of r = record { number = site_number (u16_at r 0); name = text_at r site_name; next = site_or_none (u16_at r next_offset) }
