-- Records alike: in a way that no two may be.
use Rattle.std.specs.Prelude.{Bool, ◌&&◌, ◌||◌, List, ℕ}
use Rattle.octets.specs.Text.{same}
use Rattle.table.specs.declared.record.RecordKind.TheVariants as kind
use Rattle.table.specs.Account.{Account, account_of}
use Rattle.table.specs.Context.{Context, context_of}
use Rattle.table.specs.Countings.{same_context}
use Rattle.table.specs.Internal.RecordAt.{record_at}
use Rattle.account_names.specs.AccountName.{same_account_name}
use Rattle.table.specs.SameName.{same_sid, same_dns_name}
use Rattle.table.specs.Subnet.{same_network, subnet_of}

abbrev pub contexts_alike : Context → Context → Bool
contexts_alike c d = same_context c.number d.number || same c.guid d.guid || same_sid c.sid d.sid || same_dns_name c.dns d.dns

abbrev pub accounts_alike : Account → Account → Bool
accounts_alike a b = same_context a.context b.context && same_account_name a.name b.name

-- those at two offsets
abbrev pub contexts_alike_at : List ℕ → ℕ → ℕ → Bool
contexts_alike_at image p q = contexts_alike (context_of (record_at image kind.Context p)) (context_of (record_at image kind.Context q))

abbrev pub accounts_alike_at : List ℕ → ℕ → ℕ → Bool
accounts_alike_at image p q = accounts_alike (account_of (record_at image kind.Account p)) (account_of (record_at image kind.Account q))

abbrev pub subnets_alike_at : List ℕ → ℕ → ℕ → Bool
subnets_alike_at image p q = same_network (subnet_of (record_at image kind.Subnet p)) (subnet_of (record_at image kind.Subnet q))
