-- Document 01, "The table image", kind 6: a subnet, and its fields' offsets in the record.
use Rattle.std.specs.Prelude.{Bool, ◌&&◌, List, ℕ, eqb, get_or, Option}
use Rattle.octets.specs.{Lists.cut, Number.u16_at, Sid.ipv4_size}
use Rattle.table.specs.{declared.SiteNumber.SiteNumber, declared.record.RecordFormat.RecordFormat, Address.address_number, Countings.site_or_none}

abbrev pub subnet_format : RecordFormat
subnet_format = record { kind = 6; count = 42; width = 12 }

pub record Subnet : Type 0 where
  pub address : List ℕ
  pub prefix : ℕ
  pub site : Option SiteNumber

abbrev pub in_use_octet : List ℕ → ℕ
in_use_octet r = get_or r 5 0

abbrev pub subnet_site_offset : ℕ
subnet_site_offset = 6

-- one address and one prefix, whatever the sites
unfoldable pub same_network : Subnet → Subnet → Bool
same_network n m = eqb (address_number n.address) (address_number m.address) && eqb n.prefix m.prefix

unfoldable pub subnet_of : List ℕ → Subnet
subnet_of r = record { address = cut r 0 ipv4_size; prefix = get_or r 4 0; site = site_or_none (u16_at r subnet_site_offset) }
