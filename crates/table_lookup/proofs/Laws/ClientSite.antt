-- The client's site: none, the only one, or that of the subnet that decides.
use Rattle.std.proofs.Common.{None, Some}
use mathlib.Core.Path.{◌≡◌, refl, sym, ap, ◌∙◌}
use mathlib.Core.Bool.{Bool, true, false, not}
use mathlib.Core.List.{List, [], ◌∷◌}
use Prim.Native.Nat.{ℕ}
use native.Mathlib.Omega.{arith}
use borrow.Author.Tests.{eq-eqb, ne_eqb, eqb-false}
use Rattle.octets.specs.Lists.{first, any, unique}
use Rattle.table.specs.declared.Caller.{Caller}
use Rattle.table.specs.declared.SiteNumber.{SiteNumber}
use Rattle.table.specs.Countings.{same_site_lem}
use Rattle.table.specs.Site.{Site}
use Rattle.table.specs.Table.{Table}
use Rattle.table_whole.specs.Whole.{sites_unique}
use Rattle.table_lookup.specs.Lookup.{subnet_for, site_of_subnet, site_for}
use Rattle.table_lookup.proofs.Laws.NearestSubnet.{several}

abbrev pub any_site : Site → Bool
any_site s = true

abbrev pub other_than : SiteNumber → Site → Bool
other_than n s = not (same_site_lem s.number n)

-- the first site is no other than itself
skip_own : (q s : Site) (rest : List Site) → Some s ≡ Some q → first (other_than s.number) (q ∷ rest) ≡ first (other_than s.number) rest
unfolding first
skip_own q s rest e =
    let same : q ≡ s = cc in
    rw (eq-eqb q.number.0 s.number.0 (ap (λ (x : Site). x.number.0) same))

numbers_differ : (r q : Site) (rest : List Site) → sites_unique (r ∷ q ∷ rest) ≡ true → same_site_lem r.number q.number ≡ false
unfolding sites_unique unique any
numbers_differ r q rest h = go (same_site_lem r.number q.number) refl
  where
    go : (b : Bool) → same_site_lem r.number q.number ≡ b → b ≡ false
    go false e = refl
    go true e = sym h ∙ rw e

-- no site is there
pub no_site : (t : Table) (caller : Caller) (sites : List Site) → None ≡ first any_site sites → None ≡ site_for t caller sites
unfolding first
no_site t caller [] e = refl
no_site t caller (s ∷ rest) e = absurd (let z : ◌≡◌ {A = ℕ} 0 1 = cc in omega arith)

-- no other site is there: the first is the only one
pub lone-site : (t : Table) (caller : Caller) (sites : List Site) (s : Site)
    → sites_unique sites ≡ true
    → Some s ≡ first any_site sites
    → None ≡ first (other_than s.number) sites
    → Some s ≡ site_for t caller sites
unfolding first
lone-site t caller [] s unique e f = absurd (let z : ◌≡◌ {A = ℕ} 0 1 = cc in omega arith)
lone-site t caller (r ∷ []) s unique e f = e
lone-site t caller (r ∷ q ∷ rest) s unique e f =
    let same : r ≡ s = cc in
    let differ : same_site_lem q.number s.number ≡ false =
    ne_eqb q.number.0 s.number.0 (λ z. eqb-false r.number.0 q.number.0 (numbers_differ r q rest unique) (ap (λ (x : Site). x.number.0) same ∙ sym z)) in
    let other : None ≡ Some q = f ∙ skip_own r s (q ∷ rest) e ∙ rw differ in
    absurd (let z : ◌≡◌ {A = ℕ} 0 1 = cc in omega arith)

-- another site is there: the subnet decides
pub several_sites : (t : Table) (caller : Caller) (sites : List Site) (s r : Site)
    → Some s ≡ first any_site sites
    → Some r ≡ first (other_than s.number) sites
    → site_of_subnet t (subnet_for t caller) ≡ site_for t caller sites
unfolding first
several_sites t caller [] s r e f = absurd (let z : ◌≡◌ {A = ℕ} 0 1 = cc in omega arith)
several_sites t caller (q ∷ []) s r e f =
    let nothing : Some r ≡ None = f ∙ skip_own q s [] e in
    absurd (let z : ◌≡◌ {A = ℕ} 0 1 = cc in omega arith)
several_sites t caller (q ∷ p ∷ rest) s r e f = sym (several t caller (q ∷ p ∷ rest) (omega arith))
