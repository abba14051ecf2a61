-- Document 01, "Choosing the answer": what is looked up in the table.
use Rattle.std.specs.Prelude.{cond, List, [], ◌∷◌, ℕ, ltb, Option, None, Some}
use Rattle.octets.specs.{Lists.first, Lists.keep, Text.same}
use Rattle.table.specs.{declared.Caller.Caller, declared.ContextNumber.ContextNumber, declared.SiteNumber.SiteNumber, Account.Account, Address.address_number}
use Rattle.table.specs.{Context.Context, Countings.same_context, Countings.same_site_lem, Site.Site, Subnet.Subnet, Table.Table}
use Rattle.table_find.specs.Find.{is_named_by, holds_sid, is_account_of, in_subnet}

unfoldable pub context_by_guid : Table → List ℕ → Option Context
context_by_guid t guid = first (λ c. same c.guid guid) t.contexts

unfoldable pub context_by_dns_name : Table → List ℕ → Option Context
context_by_dns_name t asked = first (is_named_by asked) t.contexts

unfoldable pub context_by_sid : Table → List ℕ → Option Context
context_by_sid t sid = first (holds_sid sid) t.contexts

unfoldable pub context_by_number : Table → ContextNumber → Option Context
context_by_number t n = first (λ c. same_context c.number n) t.contexts

unfoldable pub default_context_lem : Table → Option Context
default_context_lem t = context_by_number t t.server.default_context_lem

unfoldable pub account_by_name : Table → ContextNumber → List ℕ → Option Account
account_by_name t n name = first (is_account_of n name) t.accounts

unfoldable pub site_by_number : Table → SiteNumber → Option Site
site_by_number t n = first (λ s. same_site_lem s.number n) t.sites

-- a subnet, or one of a longer prefix where there is one
abbrev pub nearer : Subnet → Option Subnet → Option Subnet
nearer n None = Some n
nearer n (Some m) = cond (ltb n.prefix m.prefix) (Some m) (Some n)

-- the subnet with the longest prefix; of equal ones the first
unfoldable pub nearest : List Subnet → Option Subnet
nearest [] = None
nearest (n ∷ ns) = nearer n (nearest ns)

-- the subnet that decides: the nearest of those that hold the caller's address
unfoldable pub subnet_for : Table → Caller → Option Subnet
subnet_for t caller = nearest (keep (in_subnet (address_number caller.address)) t.subnets)

-- the site of a number that may be none
abbrev pub site_if_any : Table → Option SiteNumber → Option Site
site_if_any t None = None
site_if_any t (Some n) = site_by_number t n

abbrev pub site_of_subnet : Table → Option Subnet → Option Site
site_of_subnet t None = None
site_of_subnet t (Some n) = site_if_any t n.site

-- document 01's client site s, as #102 has it: the only site, or that of the subnet that decides
abbrev pub site_for : Table → Caller → List Site → Option Site
site_for t caller [] = None
site_for t caller (s ∷ []) = Some s
site_for t caller (s ∷ r ∷ rest) = site_of_subnet t (subnet_for t caller)

unfoldable pub client_site_lem : Table → Caller → Option Site
client_site_lem t caller = site_for t caller t.sites
