-- Document 02, #102: the subnet that decides, and the client's site, in every table that passed 1 to 4.
use Rattle.std.specs.Prelude.{◌≡◌, true, false, not, ◌||◌, List, [], ◌∷◌, ◌++◌, ℕ, ◌<◌, ltb, length, Ok, Option, None, Some, is_some}
use Rattle.octets.specs.Lists.{all, any}
use Rattle.table.specs.{declared.Caller.Caller, declared.SiteNumber.SiteNumber, Address.address_number, Site.Site, Subnet.Subnet, Table.Table}
use Rattle.table_find.specs.Find.{in_subnet}
use Rattle.table_lookup.specs.Lookup.{subnet_for, client_site_lem}
use Rattle.table_whole.specs.Judgement.{table_in}

-- where one of several stands
module _ {A : Type 0} where
  pub record Among (x : A) (xs : List A) : Type 0 where
    pub before : List A
    pub behind : List A
    pub stands : xs ≡ before ++ (x ∷ behind)

-- one of the subnets holds the address, and no other that holds it has a longer or an equal prefix
pub record Decides (address : ℕ) (n : Subnet) (ns : List Subnet) : Type 0 where
  pub among : Among n ns
  pub holding : in_subnet address n ≡ true
  pub nearest : all (λ m. not (in_subnet address m) || ltb m.prefix n.prefix) (among.before ++ among.behind) ≡ true

pub record NearestIn (t : Table) (caller : Caller) : Type 0 where
  pub decides : (n : Subnet) → subnet_for t caller ≡ Some n → Decides (address_number caller.address) n t.subnets
  -- there is none exactly when none holds the address
  pub whether : is_some (subnet_for t caller) ≡ any (in_subnet (address_number caller.address)) t.subnets

abbrev pub NearestSubnet : Type 0
NearestSubnet = (image : List ℕ) (t : Table) (caller : Caller) → table_in image ≡ Ok t → NearestIn t caller

-- what is found by a subnet's site: one of the sites, of that number; none where it is 0
abbrev pub FoundBy : Option SiteNumber → List Site → Option Site → Type 0
FoundBy None sites found = found ≡ None
FoundBy (Some number) sites found = (s : Site) × Among s sites × (s.number ≡ number) × (found ≡ Some s)

pub record ClientSiteIn (t : Table) (caller : Caller) : Type 0 where
  pub lone : (s : Site) → t.sites ≡ s ∷ [] → client_site_lem t caller ≡ Some s
  -- with more than one, that of the subnet that decides
  pub decided : 1 < length t.sites → (n : Subnet) → Decides (address_number caller.address) n t.subnets → FoundBy n.site t.sites (client_site_lem t caller)
  pub unheld : 1 < length t.sites → any (in_subnet (address_number caller.address)) t.subnets ≡ false → client_site_lem t caller ≡ None

abbrev pub SiteOfClient : Type 0
SiteOfClient = (image : List ℕ) (t : Table) (caller : Caller) → table_in image ≡ Ok t → ClientSiteIn t caller

-- the same subnets, in whatever order: each of one list is one of the other
abbrev pub SameSubnets : List Subnet → List Subnet → Type 0
SameSubnets ns ms = (n : Subnet) → (Among n ns → Among n ms) × (Among n ms → Among n ns)

-- two tables with the same sites, and the same subnets in another order, give a client the same site
abbrev pub SubnetOrder : Type 0
SubnetOrder =
    (image other : List ℕ) (t u : Table) (caller : Caller)
    → table_in image ≡ Ok t → table_in other ≡ Ok u → t.sites ≡ u.sites → SameSubnets t.subnets u.subnets → client_site_lem t caller ≡ client_site_lem u caller
