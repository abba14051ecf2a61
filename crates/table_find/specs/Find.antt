-- Document 01, "Choosing the answer": what is asked of a record that is looked up.
use Rattle.std.specs.Prelude.{Bool, cond, not, ◌&&◌, List, ℕ, ◌-◌, eqb, leb, length, take, get_or}
use Rattle.octets.specs.{Lists.holds, Text.same}
use Rattle.table.specs.{declared.ContextNumber.ContextNumber, Account.Account, Address.address_number, Address.share_prefix, Context.Context}
use Rattle.table.specs.{Countings.same_context, SameName.same_dns_name, Subnet.Subnet}
use Rattle.account_names.specs.AccountName.{same_account_name}

-- the name as it is compared: a DnsDomain value of two octets or more whose last octet is a dot, and whose last but one is not, is compared without that dot
unfoldable pub name_compared : List ℕ → List ℕ
name_compared asked =
    let n = length asked in
    cond (leb 2 n && eqb (get_or asked (n - 1) 0) 46 && not (eqb (get_or asked (n - 2) 0) 46)) (take (n - 1) asked) asked

-- a DnsDomain value names a context
unfoldable pub is_named_by : List ℕ → Context → Bool
is_named_by asked c = same_dns_name c.dns (name_compared asked)

-- a context without SID holds none
unfoldable pub holds_sid : List ℕ → Context → Bool
holds_sid sid c = holds (λ s. same s sid) c.sid

-- the account of a name in a context
abbrev pub is_account_of : ContextNumber → List ℕ → Account → Bool
is_account_of n name a = same_context a.context n && same_account_name a.name name

-- a subnet holds the address that has this number
unfoldable pub in_subnet : ℕ → Subnet → Bool
in_subnet address n = share_prefix n.prefix address (address_number n.address)
