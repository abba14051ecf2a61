-- Document 01, "The table image": the kinds of blocks that hold records, how many a body has, and of how many octets.
use Rattle.std.specs.Prelude.{List, [], ◌∷◌, ℕ}
use Rattle.octets.specs.Lists.{pieces}
use Rattle.table.specs.{declared.record.RecordFormat.RecordFormat, declared.record.RecordKind.RecordKind, Account.account_format, Context.context_format}
use Rattle.table.specs.{Site.site_format, Subnet.subnet_format}
use Rattle.table.specs.declared.record.RecordKind.TheVariants.{Context, Account, Site, Subnet}

abbrev pub format_of : RecordKind → RecordFormat
format_of Context = context_format
format_of Account = account_format
format_of Site = site_format
format_of Subnet = subnet_format

abbrev pub record_kinds : List RecordKind
record_kinds = Context ∷ Account ∷ Site ∷ Subnet ∷ []

-- the records of a body, used and unused
abbrev pub records_in : RecordFormat → List ℕ → List (List ℕ)
records_in format = pieces format.count format.width
