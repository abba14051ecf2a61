-- What a lookup found: the offset of the record in the image, or nothing.
use Rattle.std.specs.Prelude.{List, ℕ, ◌+◌, ◌≤◌, length, Option, IfSome, option_map}
use Rattle.octets.specs.Lists.{cut}
use Rattle.table.specs.declared.record.RecordKind.{RecordKind}
use Rattle.table.specs.declared.record.RecordKind.TheVariants as kind
use Rattle.table.specs.Account.{Account, account_of}
use Rattle.table.specs.Context.{Context, context_of}
use Rattle.table.specs.Format.{format_of}
use Rattle.table.specs.Site.{Site, site_of}
use Rattle.table.specs.Subnet.{Subnet, subnet_of}

-- the record of a kind that was found
abbrev pub record_found : List ℕ → RecordKind → Option ℕ → Option (List ℕ)
record_found image k found = option_map (λ offset. cut image offset (format_of k).width) found

-- it lies in the image
abbrev pub LiesIn : List ℕ → RecordKind → Option ℕ → Type 0
LiesIn image k found = IfSome found (λ offset. offset + (format_of k).width ≤ length image)

abbrev pub context_at : List ℕ → Option ℕ → Option Context
context_at image found = option_map context_of (record_found image kind.Context found)

abbrev pub account_at : List ℕ → Option ℕ → Option Account
account_at image found = option_map account_of (record_found image kind.Account found)

abbrev pub site_at : List ℕ → Option ℕ → Option Site
site_at image found = option_map site_of (record_found image kind.Site found)

abbrev pub subnet_at : List ℕ → Option ℕ → Option Subnet
subnet_at image found = option_map subnet_of (record_found image kind.Subnet found)
