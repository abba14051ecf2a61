-- Document 01, "The table image": the table as a whole.
use Rattle.std.specs.Prelude.{Bool, not, ◌&&◌, List, leb, length}
use Rattle.octets.specs.Lists.{all, any, unique, holds, none_or}
use Rattle.octets.specs.Text.{same, within}
use Rattle.table.specs.{declared.ContextNumber.ContextNumber, declared.SiteNumber.SiteNumber, Account.Account, Context.Context, Countings.same_context}
use Rattle.table.specs.{Countings.same_site_lem, Site.Site, SameName.same_sid, SameName.same_dns_name, Subnet.Subnet, Subnet.same_network, Table.Table}
use Rattle.account_names.specs.AccountName.{same_account_name}

-- context numbers, GUIDs, SIDs and DNS names are unique
unfoldable pub contexts_unique : List Context → Bool
contexts_unique cs =
    unique (λ c d. same_context c.number d.number) cs
    && unique (λ c d. same c.guid d.guid) cs
    && unique (λ c d. same_sid c.sid d.sid) cs
    && unique (λ c d. same_dns_name c.dns d.dns) cs

-- account names are unique within their context
unfoldable pub accounts_unique : List Account → Bool
accounts_unique = unique (λ a b. same_context a.context b.context && same_account_name a.name b.name)

unfoldable pub sites_unique : List Site → Bool
sites_unique = unique (λ s t. same_site_lem s.number t.number)

-- no two subnets have one address and prefix
unfoldable pub subnets_unique : List Subnet → Bool
subnets_unique = unique same_network

-- the context, or the site, of a number exists
unfoldable pub has_context : Table → ContextNumber → Bool
has_context t n = any (λ c. same_context c.number n) t.contexts

unfoldable pub has_site : Table → SiteNumber → Bool
has_site t n = any (λ s. same_site_lem s.number n) t.sites

-- every number referred to exists
unfoldable pub refers_rightly : Table → Bool
refers_rightly t =
    has_site t t.server.site
    && has_context t t.server.default_context_lem
    && all (λ a. has_context t a.context) t.accounts
    && all (λ s. none_or (has_site t) s.next) t.sites
    && all (λ n. none_or (has_site t) n.site) t.subnets

unfoldable pub good_whole : Table → Bool
good_whole t =
    within 1 16 (length t.contexts)
    && leb 1 (length t.sites)
    && contexts_unique t.contexts
    && sites_unique t.sites
    && accounts_unique t.accounts
    && refers_rightly t
    && all (λ s. not (holds (same_site_lem s.number) s.next)) t.sites
    && subnets_unique t.subnets
