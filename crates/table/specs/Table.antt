-- Document 01, "The table image": the table that an image holds, its server, forest, contexts, accounts, sites and subnets, in table order.
use Rattle.std.specs.Prelude.{Bool, not, ℕ, eqb, get_or}
use mathlib.Core.List.{List, [], map, flat_map}
use Rattle.octets.specs.{Lists.keep, Text.all_zero}
use Rattle.table.specs.{declared.record.RecordKind.RecordKind, Account.Account, Account.account_of, Context.Context, Context.context_of}
use Rattle.table.specs.{Forest.forest_place, Forest.forest_of, Format.format_of, Format.records_in, Site.Site, Site.site_of, Subnet.Subnet, Subnet.subnet_of}
use Rattle.table.specs.declared.record.RecordKind.TheVariants as kind
use Rattle.table.specs.Block.{blocks_of, kind_in, body}
use Rattle.table.specs.Server.{Server, server_place, server_of}

pub record Table : Type 0 where
  pub server : Server
  pub forest : List ℕ
  pub contexts : List Context
  pub accounts : List Account
  pub sites : List Site
  pub subnets : List Subnet

-- the bodies of the blocks of one kind
unfoldable pub bodies : ℕ → List (List ℕ) → List (List ℕ)
bodies kind blocks = map body (keep (λ block. eqb (kind_in block) kind) blocks)

-- an unused record is all zeros
abbrev pub is_used : List ℕ → Bool
is_used r = not (all_zero r)

-- the used records of a kind; a context's body of zeros is none either, and no table has one: its layout is refused with 3 before
unfoldable pub records_of : RecordKind → List (List ℕ) → List (List ℕ)
records_of kind blocks = keep is_used (flat_map (records_in (format_of kind)) (bodies (format_of kind).kind blocks))

unfoldable pub table_of : List (List ℕ) → Table
table_of blocks =
    record {
      server = server_of (body (get_or blocks server_place.0 []));
      forest = forest_of (body (get_or blocks forest_place.0 []));
      contexts = map context_of (records_of kind.Context blocks);
      accounts = map account_of (records_of kind.Account blocks);
      sites = map site_of (records_of kind.Site blocks);
      subnets = map subnet_of (records_of kind.Subnet blocks);
    }

-- the table of an image
abbrev pub table_from : List ℕ → Table
table_from image = table_of (blocks_of image)
