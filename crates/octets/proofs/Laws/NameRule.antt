-- What the rules for names give: labels that a name can be written with.
use mathlib.Core.Path.{◌≡◌, refl, sym, subst}
use mathlib.Core.Bool.{true, false, ◌&&◌, not}
use mathlib.Core.List.{List, [], ◌∷◌}
use Prim.Native.Nat.{ℕ, zero, suc, ◌≤◌}
use native.Mathlib.Omega.{arith}
use lib.Dec.{eqb}
use lib.ListN.{length}
use borrow.Author.Tests.{not-true, le-leb, ne_eqb}
use Rattle.octets.specs.Label.{parts, labels}
use Rattle.octets.proofs.Laws.Label.{Dotless, Plain, parts_whole, labels_plain, label-short, size-parts, size-labels}
use Rattle.octets.specs.Lists.{all, any}
use Rattle.octets.proofs.Laws.Lists.{Every, every_all, every_weaken, any_not_all, both_left, both_right}
use Rattle.octets.specs.NameRule.{sized, printable, without, is_dns_name, is_plain_name, is_netbios_name, is_site_name}
use Rattle.octets.specs.Text.{within}
use Rattle.octets.proofs.Laws.Text.{within_low, within-high}

-- a text that can be written as a name of at most n octets
pub record Writable (n : ℕ) (s : List ℕ) : Type 0 where
  pub plain : Plain (labels s)
  pub short : length s ≤ n

pub empty_writable : (n : ℕ) → Writable n []
unfolding labels
empty_writable n = record { plain = tt; short = omega arith }

sized_every : (low high : ℕ) (ls : List (List ℕ)) → all (sized low high) ls ≡ true → Every (λ l. (low ≤ length l) × (length l ≤ high)) ls
sized_every low high ls e =
    every_all (sized low high) (λ l. (low ≤ length l) × (length l ≤ high)) (λ l q. (within_low low high (length l) q, within-high low high (length l) q)) ls e

pub dns_writable : (s : List ℕ) → is_dns_name s ≡ true → Writable 253 s
unfolding is_dns_name labels
dns_writable [] e = empty_writable 253
dns_writable (x ∷ xs) e =
    let s : List ℕ = x ∷ xs in
    let a : sized 1 253 s && printable s ≡ true = both_left (sized 1 253 s && printable s) (all (sized 1 63) (parts s)) e in
    let b : all (sized 1 63) (parts s) ≡ true = both_right (sized 1 253 s && printable s) (all (sized 1 63) (parts s)) e in
    let c : length s ≤ 253 = within-high 1 253 (length s) (both_left (sized 1 253 s) (printable s) a) in
    record { plain = labels_plain s (sized_every 1 63 (parts s) b); short = c }

without_dot : (s : List ℕ) → without 46 s ≡ true → Dotless s
without_dot s e = every_all (λ y. not (eqb y 46)) (λ y. eqb y 46 ≡ false) (λ y q. not-true (eqb y 46) q) s e

-- a text of 1 to n octets without dots is one label
undotted : (n : ℕ) (s : List ℕ) → n ≤ 63 → sized 1 n s ≡ true → without 46 s ≡ true → Writable n s
unfolding labels
undotted n [] k e d = empty_writable n
undotted n (x ∷ xs) k e d =
    let a : length (x ∷ xs) ≤ n = within-high 1 n (length (x ∷ xs)) e in
    let q : Dotless (x ∷ xs) = without_dot (x ∷ xs) d in
    record { plain = subst Plain (sym (parts_whole (x ∷ xs) q)) ((omega arith, omega arith, q), tt); short = a }

module _ (n : ℕ) (s : List ℕ) (e : sized 1 n s && printable s && without 46 s ≡ true) where
  sized_there : sized 1 n s ≡ true
  sized_there = both_left (sized 1 n s) (printable s) (both_left (sized 1 n s && printable s) (without 46 s) e)

  printable_there : printable s ≡ true
  printable_there = both_right (sized 1 n s) (printable s) (both_left (sized 1 n s && printable s) (without 46 s) e)

  undotted_there : n ≤ 63 → Writable n s
  undotted_there k = undotted n s k sized_there (both_right (sized 1 n s && printable s) (without 46 s) e)

pub netbios_writable : (s : List ℕ) → is_netbios_name s ≡ true → Writable 15 s
unfolding is_plain_name
netbios_writable s e = undotted_there 15 s e (omega arith)

pub site_writable : (s : List ℕ) → is_site_name s ≡ true → Writable 63 s
unfolding is_plain_name
site_writable s e = undotted_there 63 s e (omega arith)

pub netbios-printable : (s : List ℕ) → is_netbios_name s ≡ true → printable s ≡ true
unfolding is_plain_name
netbios-printable s e = printable_there 15 s e

-- a text of at most 63 octets with no empty label
pub short_writable : (s : List ℕ) → length s ≤ 63 → Every (λ l. 1 ≤ length l) (labels s) → Writable 63 s
short_writable s h e = record { plain = labels_plain s (go (labels s) e (label-short (labels s) 63 (omega (arith, size-labels s)))); short = h }
  where
    go : (ls : List (List ℕ)) → Every (λ l. 1 ≤ length l) ls → Every (λ l. length l ≤ 63) ls → Every (λ l. (1 ≤ length l) × (length l ≤ 63)) ls
    go [] a b = tt
    go (l ∷ ls) a b = ((a.0, b.0), go ls a.1 b.1)

-- in a text of at most 63 octets a label of another size is an empty one
pub empty_label : (s : List ℕ) → length s ≤ 63 → any (λ l. eqb (length l) 0) (parts s) ≡ not (all (sized 1 63) (parts s))
empty_label s h =
    any_not_all (λ l. eqb (length l) 0) (sized 1 63) (parts s)
    (every_weaken (λ l. length l ≤ 63) (λ l. eqb (length l) 0 ≡ not (sized 1 63 l)) (λ l k. unsized (length l) k) (parts s)
    (label-short (parts s) 63 (omega (arith, size-parts s))))
  where
    unsized : (n : ℕ) → n ≤ 63 → eqb n 0 ≡ not (within 1 63 n)
    unsized zero k = refl
    unsized (suc n) k = rw (le-leb (suc n) 63 k, le-leb 1 (suc n) (omega arith), ne_eqb (suc n) 0 (λ e. omega arith))
