-- The subnet that decides is the only one of the longest prefix: two that hold one address with one prefix have one network, and 4 refuses them.
use Rattle.std.proofs.Common.{Ok, Option, None, Some, is_some}
use mathlib.Core.Path.{◌≡◌, refl, sym, ap, subst, ◌∙◌}
use mathlib.Core.Bool.{Bool, true, false, not, ◌&&◌, ◌||◌, cond, false≢true}
use mathlib.Core.List.{List, [], ◌∷◌, ◌++◌}
use mathlib.Core.Logic.{◌⊎◌, inl, inr}
use Prim.Native.Nat.{ℕ, ◌<◌, ◌≤◌}
use native.Mathlib.Omega.{arith}
use lib.Dec.{eqb, ltb}
use lib.ListN.{length}
use borrow.Author.Tests.{eqb-true, eqb-false, eq-eqb, ltb-true, ltb-false, lt-ltb, not-true}
use Rattle.answers.proofs.Laws.Try.{good-same}
use Rattle.octets.specs.Lists.{all, any, first, first_or, keep, keep_if, unique, none_or}
use Rattle.octets.proofs.Laws.Lists.{Every, every_all, every_none, first_any, first_holds, neither_left, neither_right, both_left, both_right, none_not_some}
use Rattle.table.specs.declared.Caller.{Caller}
use Rattle.table.specs.declared.SiteNumber.{SiteNumber}
use Rattle.table.specs.Address.{address_number, network_of, is_prefix_only, share_prefix}
use Rattle.table.specs.Countings.{same_site_lem}
use Rattle.table.specs.Site.{Site}
use Rattle.table.specs.Subnet.{Subnet, same_network}
use Rattle.table.specs.Table.{Table}
use Rattle.table_find.specs.Find.{in_subnet}
use Rattle.table_lookup.specs.Lookup.{nearer, nearest, subnet_for, site_by_number, site_if_any, site_of_subnet, site_for, client_site_lem}
use Rattle.table_whole.specs.Judgement.{table_in}
use Rattle.table_whole.specs.Whole.{subnets_unique, has_context, has_site, refers_rightly}
use Rattle.table_whole.proofs.Laws.Judgement.{PrefixOnly, accepted, accepted_prefixes, judged-whole}
use Rattle.table_lookup.specs.NearestSubnet.{Among, Decides, NearestIn, NearestSubnet, FoundBy, ClientSiteIn, SiteOfClient, SameSubnets, SubnetOrder}

-- ---- one of several

module _ {A : Type 0} where
  pub every_among : (P : A → Type 0) (xs : List A) (x : A) → Every P xs → Among x xs → P x
  every_among P xs x h a = go a.before (subst (Every P) a.stands h)
    where
      go : (before : List A) → Every P (before ++ (x ∷ a.behind)) → P x
      go [] e = e.0
      go (y ∷ before) e = go before e.1

  pub any-among : (p : A → Bool) (xs : List A) (x : A) → any p xs ≡ false → Among x xs → p x ≡ false
  any-among p xs x e a = every_among (λ y. p y ≡ false) xs x (every_none p (λ y. p y ≡ false) (λ y q. q) xs e) a

  later : (y x : A) (xs : List A) → Among x xs → Among x (y ∷ xs)
  later y x xs a = record { before = y ∷ a.before; behind = a.behind; stands = ap (λ (s : List A). y ∷ s) a.stands }

  first-among : (p : A → Bool) (xs : List A) (x : A) → first p xs ≡ Some x → Among x xs
  unfolding first later
  first-among p [] x e = absurd (none_not_some x e)
  first-among p (y ∷ xs) x e = go (p y) (first-among p xs x) e
    where
      go : (b : Bool) → (first p xs ≡ Some x → Among x xs) → first_or b y (first p xs) ≡ Some x → Among x (y ∷ xs)
      go true rest f = let z : y ≡ x = cc in record { before = []; behind = xs; stands = ap (λ (w : A). w ∷ xs) z }
      go false rest f = later y x xs (rest f)

module _ (address : ℕ) where
  -- two that hold the address with one prefix have one network
  one_network : (n m : Subnet) → PrefixOnly n → PrefixOnly m → in_subnet address n ≡ true → in_subnet address m ≡ true → n.prefix ≡ m.prefix → same_network n m ≡ true
  unfolding same_network in_subnet share_prefix is_prefix_only
  one_network n m p q h k e =
      let x : network_of n.prefix address ≡ address_number n.address = eqb-true _ _ h ∙ eqb-true _ _ p in
      let y : network_of m.prefix address ≡ address_number m.address = eqb-true _ _ k ∙ eqb-true _ _ q in
      let z : address_number n.address ≡ address_number m.address = sym x ∙ ap (λ (w : ℕ). network_of w address) e ∙ y in
      rw (eq-eqb _ _ z, eq-eqb _ _ e)

  -- it does not hold the address, or has a shorter prefix than another
  abbrev below : ℕ → Subnet → Bool
  below prefix m = not (in_subnet address m) || ltb m.prefix prefix

  none_holds : (ns : List Subnet) → is_some (nearest (keep (in_subnet address) ns)) ≡ any (in_subnet address) ns
  unfolding nearest keep any
  none_holds [] = refl
  none_holds (x ∷ ns) = go (in_subnet address x) (none_holds ns)
    where
      one_found : (o : Option Subnet) → is_some (nearer x o) ≡ true
      one_found None = refl
      one_found (Some m) = either (ltb x.prefix m.prefix)
        where
          either : (b : Bool) → is_some (cond b (Some m) (Some x)) ≡ true
          either true = refl
          either false = refl

      go : (b : Bool) → is_some (nearest (keep (in_subnet address) ns)) ≡ any (in_subnet address) ns
          → is_some (nearest (keep_if b x (keep (in_subnet address) ns))) ≡ (b || any (in_subnet address) ns)
      go true e = one_found (nearest (keep (in_subnet address) ns))
      go false e = e

  -- where none holds the address, each is below any
  none_below : (prefix : ℕ) (ns : List Subnet) → any (in_subnet address) ns ≡ false → all (below prefix) ns ≡ true
  unfolding any all
  none_below prefix [] e = refl
  none_below prefix (x ∷ ns) e = rw (neither_left (in_subnet address x) (any (in_subnet address) ns) e) (none_below prefix ns (neither_right (in_subnet address x) (any (in_subnet address) ns) e))

  -- what is below one prefix is below a longer one
  below_longer : (p q : ℕ) → p ≤ q → (m : Subnet) → below p m ≡ true → below q m ≡ true
  below_longer p q h m e = go (in_subnet address m) e
    where
      go : (b : Bool) → (not b || ltb m.prefix p) ≡ true → (not b || ltb m.prefix q) ≡ true
      go false f = refl
      go true f = lt-ltb m.prefix q (omega (arith, ltb-true m.prefix p f))

  all-longer : (p q : ℕ) → p ≤ q → (ms : List Subnet) → all (below p) ms ≡ true → all (below q) ms ≡ true
  unfolding all
  all-longer p q h [] e = refl
  all-longer p q h (m ∷ ms) e =
      rw (below_longer p q h m (both_left (below p m) (all (below p) ms) e)) (all-longer p q h ms (both_right (below p m) (all (below p) ms) e))

  -- one put between two parts
  all-between : (p : Subnet → Bool) (before : List Subnet) (n : Subnet) (behind : List Subnet) → all p (before ++ behind) ≡ true → p n ≡ true → all p (before ++ (n ∷ behind)) ≡ true
  unfolding all
  all-between p [] n behind e f = rw f e
  all-between p (x ∷ before) n behind e f = rw (both_left (p x) (all p (before ++ behind)) e) (all-between p before n behind (both_right (p x) (all p (before ++ behind)) e) f)

  -- one more in front of those of which it is known
  module _ (x : Subnet) (ns : List Subnet) (apart : any (same_network x) ns ≡ false) (own : PrefixOnly x) (others : Every PrefixOnly ns) where
    passed : (m : Subnet) → Decides address m ns → below m.prefix x ≡ true → Decides address m (x ∷ ns)
    unfolding all later
    passed m d b = record { among = later x m ns d.among; holding = d.holding; nearest = rw b d.nearest }

    in_front : in_subnet address x ≡ true → all (below x.prefix) ns ≡ true → Decides address x (x ∷ ns)
    in_front h b = record { among = record { before = []; behind = ns; stands = refl }; holding = h; nearest = b }

    module _ (h : in_subnet address x ≡ true) (m : Subnet) (d : Decides address m ns) where
      -- one that decides among the rest, and is not longer, is shorter
      shorter : m.prefix ≤ x.prefix → m.prefix < x.prefix
      shorter k = go (eqb x.prefix m.prefix) refl
        where
          go : (b : Bool) → eqb x.prefix m.prefix ≡ b → m.prefix < x.prefix
          go true q =
              let same : same_network x m ≡ true = one_network x m own (every_among PrefixOnly ns m others d.among) h d.holding (eqb-true x.prefix m.prefix q) in
              absurd (false≢true (sym (any-among (same_network x) ns m apart d.among) ∙ same))
          go false q = let n : x.prefix ≡ m.prefix → ⊥ = eqb-false x.prefix m.prefix q in omega (arith, k, n)

      all_shorter : m.prefix ≤ x.prefix → all (below x.prefix) ns ≡ true
      all_shorter k =
          let s : ltb m.prefix x.prefix ≡ true = lt-ltb m.prefix x.prefix (shorter k) in
          let b : below x.prefix m ≡ true = rw (d.holding, s) in
          subst (λ (ms : List Subnet). all (below x.prefix) ms ≡ true) (sym d.among.stands)
          (all-between (below x.prefix) d.among.before m d.among.behind (all-longer m.prefix x.prefix k (d.among.before ++ d.among.behind) d.nearest) b)

      one_of_two : (n : Subnet) → nearer x (Some m) ≡ Some n → Decides address n (x ∷ ns)
      one_of_two n e = go (ltb x.prefix m.prefix) refl e
        where
          go : (b : Bool) → ltb x.prefix m.prefix ≡ b → cond b (Some m) (Some x) ≡ Some n → Decides address n (x ∷ ns)
          go true p f = let z : m ≡ n = cc in subst (λ (k : Subnet). Decides address k (x ∷ ns)) z (passed m d (rw (h, p)))
          go false p f = let z : x ≡ n = cc in subst (λ (k : Subnet). Decides address k (x ∷ ns)) z (in_front h (all_shorter (ltb-false x.prefix m.prefix p)))

    only : (n : Subnet) → in_subnet address x ≡ true → nearest (keep (in_subnet address) ns) ≡ None → nearer x None ≡ Some n → Decides address n (x ∷ ns)
    only n h q e =
        let z : x ≡ n = cc in
        subst (λ (k : Subnet). Decides address k (x ∷ ns)) z (in_front h (none_below x.prefix ns (sym (none_holds ns) ∙ ap is_some q)))

    one_more : ((m : Subnet) → nearest (keep (in_subnet address) ns) ≡ Some m → Decides address m ns) → (n : Subnet) → nearest (keep (in_subnet address) (x ∷ ns)) ≡ Some n → Decides address n (x ∷ ns)
    unfolding nearest keep
    one_more rest n e = go (in_subnet address x) refl e
      where
        chosen : in_subnet address x ≡ true → (o : Option Subnet) → nearest (keep (in_subnet address) ns) ≡ o → nearer x o ≡ Some n → Decides address n (x ∷ ns)
        chosen h None q f = only n h q f
        chosen h (Some m) q f = one_of_two h m (rest m q) n f

        go : (b : Bool) → in_subnet address x ≡ b → nearest (keep_if b x (keep (in_subnet address) ns)) ≡ Some n → Decides address n (x ∷ ns)
        go false h f = passed n (rest n f) (rw h)
        go true h f = chosen h (nearest (keep (in_subnet address) ns)) refl f

  decided : (ns : List Subnet) → unique same_network ns ≡ true → Every PrefixOnly ns → (n : Subnet) → nearest (keep (in_subnet address) ns) ≡ Some n → Decides address n ns
  unfolding nearest keep unique
  decided [] u g n e = absurd (none_not_some n e)
  decided (x ∷ ns) u g n e =
      let rest : unique same_network ns ≡ true = both_right (not (any (same_network x) ns)) (unique same_network ns) u in
      one_more x ns (not-true (any (same_network x) ns) (both_left (not (any (same_network x) ns)) (unique same_network ns) u)) g.0 g.1 (decided ns rest g.1) n e

-- ---- the table

module _ (image : List ℕ) (t : Table) (e : table_in image ≡ Ok t) where
  subnets_apart : unique same_network t.subnets ≡ true
  unfolding subnets_unique
  subnets_apart = (judged-whole image t e).subnets

  prefixes : Every PrefixOnly t.subnets
  prefixes = subst (λ (x : Table). Every PrefixOnly x.subnets) (good-same (sym (accepted image t e) ∙ e)) (accepted_prefixes image (accepted image t e))

  nearest_in : (caller : Caller) → NearestIn t caller
  unfolding subnet_for
  nearest_in caller =
      let address : ℕ = address_number caller.address in
      record { decides = decided address t.subnets subnets_apart prefixes; whether = none_holds address t.subnets }

pub nearest_subnet : NearestSubnet
nearest_subnet image t caller e = nearest_in image t e caller

-- ---- the order of the subnets

-- of those that hold the address each is the one that decides, or has a shorter prefix
module _ (address : ℕ) where
  abbrev Outdone : Subnet → Subnet → Type 0
  Outdone n m = in_subnet address m ≡ true → (m ≡ n) ⊎ (m.prefix < n.prefix)

  outdone : (ns : List Subnet) (n : Subnet) → Decides address n ns → (m : Subnet) → Among m ns → Outdone n m
  unfolding all
  outdone ns n d m a = every_among (Outdone n) ns m (subst (Every (Outdone n)) (sym d.among.stands) (go d.among.before d.nearest)) a
    where
      each : (k : Subnet) → below address n.prefix k ≡ true → Outdone n k
      each k b h = inr (ltb-true k.prefix n.prefix (rw h at b))

      behind : (ks : List Subnet) → all (below address n.prefix) ks ≡ true → Every (Outdone n) ks
      behind [] b = tt
      behind (k ∷ ks) b = (each k (both_left (below address n.prefix k) (all (below address n.prefix) ks) b), behind ks (both_right (below address n.prefix k) (all (below address n.prefix) ks) b))

      go : (ks : List Subnet) → all (below address n.prefix) (ks ++ d.among.behind) ≡ true → Every (Outdone n) (ks ++ (n ∷ d.among.behind))
      go [] b = (λ h. inl refl, behind d.among.behind b)
      go (k ∷ ks) b =
          let rest : Bool = all (below address n.prefix) (ks ++ d.among.behind) in
          (each k (both_left (below address n.prefix k) rest b), go ks (both_right (below address n.prefix k) rest b))

  -- two that each outdo the other are one
  one-decides : (ns ms : List Subnet) (n m : Subnet) → SameSubnets ns ms → Decides address n ns → Decides address m ms → n ≡ m
  one-decides ns ms n m s d f =
      go (outdone ms m f n ((s n).0 d.among) d.holding) (outdone ns n d m ((s m).1 f.among) f.holding)
    where
      go : (n ≡ m) ⊎ (n.prefix < m.prefix) → (m ≡ n) ⊎ (m.prefix < n.prefix) → n ≡ m
      go (inl p) q = p
      go (inr p) (inl q) = sym q
      go (inr p) (inr q) = absurd (omega (arith, p, q))

-- ---- the client's site

same_number : (m n : SiteNumber) → same_site_lem m n ≡ true → m ≡ n
same_number m n e = λ j. record { 0 = eqb-true m.0 n.0 e j }

-- a number that a site has finds it
found_by : (t : Table) (o : Option SiteNumber) → none_or (has_site t) o ≡ true → FoundBy o t.sites (site_if_any t o)
unfolding site_by_number has_site
found_by t None e = refl
found_by t (Some number) e = go (first p t.sites) refl
  where
    p : Site → Bool
    p s = same_site_lem s.number number

    go : (o : Option Site) → first p t.sites ≡ o → FoundBy (Some number) t.sites (first p t.sites)
    go None q = absurd (false≢true (sym (ap is_some q) ∙ first_any p t.sites ∙ e))
    go (Some s) q = (s, first-among p t.sites s q, same_number s.number number (first_holds p t.sites s q), q)

-- with more than one site the subnet decides
pub several : (t : Table) (caller : Caller) (sites : List Site) → 1 < length sites → site_for t caller sites ≡ site_of_subnet t (subnet_for t caller)
several t caller [] h = absurd (omega arith)
several t caller (s ∷ []) h = absurd (omega arith)
several t caller (s ∷ r ∷ rest) h = refl

module _ (image : List ℕ) (t : Table) (caller : Caller) (e : table_in image ≡ Ok t) where
  abbrev address : ℕ
  address = address_number caller.address

  near : NearestIn t caller
  near = nearest_in image t e caller

  unfound : any (in_subnet address) t.subnets ≡ false → subnet_for t caller ≡ None
  unfound w = go (subnet_for t caller) refl
    where
      go : (o : Option Subnet) → subnet_for t caller ≡ o → o ≡ None
      go None q = refl
      go (Some m) q = absurd (false≢true (sym (near.whether ∙ w) ∙ ap is_some q))

  -- the one that decides is found, in whatever order they stand
  deciding : (ns : List Subnet) → SameSubnets t.subnets ns → (n : Subnet) → Decides address n ns → subnet_for t caller ≡ Some n
  deciding ns same n d = go (subnet_for t caller) refl
    where
      go : (o : Option Subnet) → subnet_for t caller ≡ o → o ≡ Some n
      go None q =
          let unheld : in_subnet address n ≡ false = any-among (in_subnet address) t.subnets n (sym near.whether ∙ ap is_some q) ((same n).1 d.among) in
          absurd (false≢true (sym unheld ∙ d.holding))
      go (Some m) q = ap Some (one-decides address t.subnets ns m n same (near.decides m q) d)

  referring : Every (λ n. none_or (has_site t) n.site ≡ true) t.subnets
  unfolding refers_rightly
  referring =
      let subnets : Bool = all (λ n. none_or (has_site t) n.site) t.subnets in
      let others : Bool =
      has_site t t.server.site && has_context t t.server.default_context_lem && all (λ a. has_context t a.context) t.accounts && all (λ s. none_or (has_site t) s.next) t.sites in
      every_all (λ n. none_or (has_site t) n.site) (λ n. none_or (has_site t) n.site ≡ true) (λ n q. q) t.subnets (both_right others subnets (judged-whole image t e).references)

  client_site_in : ClientSiteIn t caller
  unfolding client_site_lem
  client_site_in =
      record {
        lone = λ s q. ap (site_for t caller) q;
        decided =
            λ h n d. subst (FoundBy n.site t.sites) (sym (several t caller t.sites h ∙ ap (site_of_subnet t) (deciding t.subnets (λ k. (λ a. a, λ a. a)) n d)))
            (found_by t n.site (every_among (λ m. none_or (has_site t) m.site ≡ true) t.subnets n referring d.among));
        unheld = λ h w. several t caller t.sites h ∙ ap (site_of_subnet t) (unfound w);
      }

pub site_of_client : SiteOfClient
site_of_client image t caller e = client_site_in image t caller e

-- ---- the client's site in another order

-- a client's site, by the sites and the subnet that decides
abbrev numbered : List Site → SiteNumber → Option Site
numbered sites n = first (λ s. same_site_lem s.number n) sites

abbrev site_in : List Site → Option SiteNumber → Option Site
site_in sites None = None
site_in sites (Some n) = numbered sites n

abbrev site_by : List Site → Option Subnet → Option Site
site_by sites None = None
site_by sites (Some n) = site_in sites n.site

abbrev chosen : List Site → List Site → Option Subnet → Option Site
chosen sites [] o = None
chosen sites (s ∷ []) o = Some s
chosen sites (s ∷ r ∷ rest) o = site_by sites o

by_sites : (t : Table) (caller : Caller) → client_site_lem t caller ≡ chosen t.sites t.sites (subnet_for t caller)
unfolding client_site_lem site_by_number
by_sites t caller = go t.sites
  where
    number : (o : Option SiteNumber) → site_if_any t o ≡ site_in t.sites o
    number None = refl
    number (Some n) = refl

    subnet : (o : Option Subnet) → site_of_subnet t o ≡ site_by t.sites o
    subnet None = refl
    subnet (Some n) = number n.site

    go : (sites : List Site) → site_for t caller sites ≡ chosen t.sites sites (subnet_for t caller)
    go [] = refl
    go (s ∷ []) = refl
    go (s ∷ r ∷ rest) = subnet (subnet_for t caller)

module _ (image other : List ℕ) (t u : Table) (caller : Caller) (e : table_in image ≡ Ok t) (f : table_in other ≡ Ok u) (same : SameSubnets t.subnets u.subnets) where
  same_subnet : subnet_for t caller ≡ subnet_for u caller
  same_subnet = go (subnet_for t caller) refl (subnet_for u caller) refl
    where
      go : (o : Option Subnet) → subnet_for t caller ≡ o → (p : Option Subnet) → subnet_for u caller ≡ p → subnet_for t caller ≡ subnet_for u caller
      go (Some n) q p r = q ∙ sym (deciding other u caller f t.subnets (λ k. ((same k).1, (same k).0)) n ((nearest_in image t e caller).decides n q))
      go None q (Some m) r = deciding image t caller e u.subnets same m ((nearest_in other u f caller).decides m r) ∙ sym r
      go None q None r = q ∙ sym r

pub subnet_order : SubnetOrder
subnet_order image other t u caller e f sites same =
    by_sites t caller
    ∙ (λ i. chosen (sites i) (sites i) (same_subnet image other t u caller e f same i))
    ∙ sym (by_sites u caller)
