-- Document 01, "The table image", kind 1, at block 0: the server, and its fields' offsets in the body.
use Rattle.std.specs.Prelude.{List, ℕ}
use Rattle.octets.specs.{Lists.cut, NameRule.netbios_name_most, NameRule.dns_name_most, Number.u16_at, Number.u32_at, Sid.ipv4_size}
use Rattle.table.specs.{declared.BlockPlace.BlockPlace, declared.ContextNumber.ContextNumber, declared.SiteNumber.SiteNumber}
use Rattle.table.specs.{declared.field.TextField.TextField, Field.text_at}
use Rattle.table.specs.Countings.{context_number, site_number, block_place}

abbrev pub server_kind : ℕ
server_kind = 1

abbrev pub server_place : BlockPlace
server_place = block_place 0

pub record Server : Type 0 where
  pub roles : ℕ
  pub state : ℕ
  pub address : List ℕ
  pub site : SiteNumber
  pub default_context_lem : ContextNumber
  pub netbios : List ℕ
  pub host : List ℕ

abbrev pub server_netbios_lem : TextField
server_netbios_lem = record { offset = 16; room = netbios_name_most }

abbrev pub server_host : TextField
server_host = record { offset = 32; room = dns_name_most }

unfoldable pub server_of : List ℕ → Server
server_of b =
    record {
      roles = u32_at b 0;
      state = u32_at b 4;
      address = cut b 8 ipv4_size;
      site = site_number (u16_at b 12);
      default_context_lem = context_number (u16_at b 14);
      netbios = text_at b server_netbios_lem;
      host = text_at b server_host;
    }
