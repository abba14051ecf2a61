-- Laws of comparing texts: over what is left at an index, for any way of folding an octet.
use mathlib.Core.Path.{◌≡◌, refl, sym, ap, ap₂, ◌∙◌}
use mathlib.Core.Bool.{Bool, true, false, ◌&&◌, ◌||◌, and_assoc}
use mathlib.Core.List.{List, [], ◌∷◌, map}
use Prim.Native.Nat.{ℕ, zero, suc, ◌*◌, ◌≤◌, ◌<◌}
use native.Mathlib.Omega.{arith}
use lib.Dec.{eqb, leb, ltb}
use lib.ListN.{length, get_or, take, replicate, drop, length-drop}
use lib.Seq.{drop-drop}
use borrow.Author.Tests.{eq-eqb, ne_eqb, eqb-true, leb-true, eqb-false, le-leb, lt-leb, ltb-true, ltb-false}
use lib.Pointwise.{pointwise}
use Rattle.std.specs.Char.{to_ascii_lowercase, eq_ignore_ascii_case}
use Rattle.std.specs.List.{list_all, zip}
use Rattle.std.specs.Simd.{first_chunks}
use Rattle.octets.specs.Lists.{all}
use Rattle.octets.specs.Text.{same, within, lower, same_folded, all_zero}
use Rattle.octets.proofs.Laws.Lists.{all-parts, cut-length, both_left, both_right, true_not_false}

-- texts of other lengths are not the same
pub same_lengths : (x y : List ℕ) → (length x ≡ length y → ⊥) → same x y ≡ false
unfolding same
same_lengths [] [] h = absurd (h refl)
same_lengths [] (y ∷ ys) h = refl
same_lengths (x ∷ xs) [] h = refl
same_lengths (x ∷ xs) (y ∷ ys) h = go (eqb x y) (same_lengths xs ys (λ e. h (ap suc e)))
  where
    go : (t : Bool) → same xs ys ≡ false → t && same xs ys ≡ false
    go true e = e
    go false e = refl

-- octets that stay as they are
pub map_id : (s : List ℕ) → map (λ x. x) s ≡ s
map_id [] = refl
map_id (x ∷ s) = ap (λ (l : List ℕ). x ∷ l) (map_id s)

-- octets that test as the same are the same
pub same_equal : (x y : List ℕ) → same x y ≡ true → x ≡ y
unfolding same
same_equal [] [] e = refl
same_equal [] (y ∷ ys) e = absurd (true_not_false (sym e))
same_equal (x ∷ xs) [] e = absurd (true_not_false (sym e))
same_equal (x ∷ xs) (y ∷ ys) e =
    let a : x ≡ y = eqb-true x y (both_left (eqb x y) (same xs ys) e) in
    let b : xs ≡ ys = same_equal xs ys (both_right (eqb x y) (same xs ys) e) in
    cc

pub same_self : (x : List ℕ) → same x x ≡ true
unfolding same
same_self [] = refl
same_self (x ∷ xs) = rw (eq-eqb x x refl, same_self xs)

pub within_low : (low high n : ℕ) → within low high n ≡ true → low ≤ n
within_low low high n e = leb-true low n (both_left (leb low n) (leb n high) e)

pub within-high : (low high n : ℕ) → within low high n ≡ true → n ≤ high
within-high low high n e = leb-true n high (both_right (leb low n) (leb n high) e)

pub within_range : (low high n : ℕ) → low ≤ n → n ≤ high → within low high n ≡ true
within_range low high n h k = rw (le-leb low n h, le-leb n high k)

pub without_range : (low high n : ℕ) → (low ≤ n → high < n) → within low high n ≡ false
without_range low high n h = go (leb low n) refl
  where
    go : (b : Bool) → leb low n ≡ b → within low high n ≡ false
    go true e = rw (e, lt-leb n high (h (leb-true low n e)))
    go false e = rw e

pub eqb_comm : (m n : ℕ) → eqb m n ≡ eqb n m
eqb_comm m n = go (eqb n m) refl
  where
    go : (b : Bool) → eqb n m ≡ b → eqb m n ≡ eqb n m
    go true e = eq-eqb m n (sym (eqb-true n m e)) ∙ sym e
    go false e = ne_eqb m n (λ q. eqb-false n m e (sym q)) ∙ sym e

pub same_sym : (xs ys : List ℕ) → same xs ys ≡ same ys xs
unfolding same
same_sym [] [] = refl
same_sym [] (y ∷ ys) = refl
same_sym (x ∷ xs) [] = refl
same_sym (x ∷ xs) (y ∷ ys) = rw (eqb_comm x y, same_sym xs ys)

-- texts that are the same with case ignored compare alike
pub folded_left : (xs ys zs : List ℕ) → same_folded xs ys ≡ true → same_folded xs zs ≡ same_folded ys zs
folded_left xs ys zs e = ap (λ (l : List ℕ). same l (map lower zs)) (same_equal (map lower xs) (map lower ys) e)

pub folded_sym : (xs ys : List ℕ) → same_folded xs ys ≡ same_folded ys xs
folded_sym xs ys = same_sym (map lower xs) (map lower ys)

-- an octet of zeros is zero, and one that is missing counts as zero
pub zero_octet : (s : List ℕ) (i : ℕ) → all_zero s ≡ true → get_or s i 0 ≡ 0
unfolding all
zero_octet [] i e = refl
zero_octet (x ∷ s) zero e = eqb-true x 0 (both_left (eqb x 0) (all_zero s) e)
zero_octet (x ∷ s) (suc i) e = zero_octet s i (both_right (eqb x 0) (all_zero s) e)

-- std's tests of texts are these
pub pointwise_same : (xs ys : List ℕ) → pointwise eqb xs ys ≡ same xs ys
unfolding same
pointwise_same [] [] = refl
pointwise_same [] (y ∷ ys) = refl
pointwise_same (x ∷ xs) [] = refl
pointwise_same (x ∷ xs) (y ∷ ys) = ap (λ (b : Bool). eqb x y && b) (pointwise_same xs ys)

pub lowercase : (x : ℕ) → to_ascii_lowercase x ≡ lower x
unfolding lower
lowercase x = go (ltb x 65) refl (ltb x 91) refl
  where
    go : (s : Bool) → ltb x 65 ≡ s → (t : Bool) → ltb x 91 ≡ t → to_ascii_lowercase x ≡ lower x
    go true e t f = rw (e, lt-leb 65 x (ltb-true x 65 e))
    go false e true f = let h : x < 91 = ltb-true x 91 f in rw (e, f, le-leb 65 x (ltb-false x 65 e), le-leb x 90 (omega arith))
    go false e false f = let h : 91 ≤ x = ltb-false x 91 f in rw (e, f, le-leb 65 x (ltb-false x 65 e), lt-leb x 90 (omega arith))

-- octets that are the same, or are with case ignored
abbrev pub alike_octets : ℕ × ℕ → Bool
alike_octets p = eqb p.0 p.1 || eq_ignore_ascii_case p.0 p.1

octets_folded : (x y : ℕ) → alike_octets (x, y) ≡ eqb (lower x) (lower y)
octets_folded x y = go (eqb x y) refl
  where
    go : (b : Bool) → eqb x y ≡ b → alike_octets (x, y) ≡ eqb (lower x) (lower y)
    go true e = rw e (sym (eq-eqb (lower x) (lower y) (ap lower (eqb-true x y e))))
    go false e = rw e (ap₂ eqb (lowercase x) (lowercase y))

-- in pairs, where they are as long
pub pairs_folded : (xs ys : List ℕ) → length xs ≡ length ys → list_all alike_octets (zip xs ys) ≡ same_folded xs ys
unfolding same
pairs_folded [] [] e = refl
pairs_folded [] (y ∷ ys) e = absurd (omega (arith, e))
pairs_folded (x ∷ xs) [] e = absurd (omega (arith, e))
pairs_folded (x ∷ xs) (y ∷ ys) e = ap₂ ◌&&◌ (octets_folded x y) (pairs_folded xs ys (omega (arith, e)))

-- as many zeros
pub zeros_pointwise : (n : ℕ) (xs : List ℕ) → length xs ≡ n → pointwise eqb xs (replicate n 0) ≡ all_zero xs
unfolding all
zeros_pointwise zero [] e = refl
zeros_pointwise zero (x ∷ xs) e = absurd (omega (arith, e))
zeros_pointwise (suc n) [] e = absurd (omega (arith, e))
zeros_pointwise (suc n) (x ∷ xs) e = ap (λ (b : Bool). eqb x 0 && b) (zeros_pointwise n xs (omega (arith, e)))

-- k times eight zeros, and what is left after them
pub eights_zero : (k : ℕ) (s : List ℕ) → k * 8 ≤ length s → (list_all (λ e. pointwise eqb e (replicate 8 0)) (first_chunks 8 k s) && all_zero (drop (k * 8) s)) ≡ all_zero s
eights_zero zero s h = refl
eights_zero (suc k) s h =
    let front = zeros_pointwise 8 (take 8 s) (cut-length s 0 8 (omega (arith, h))) in
    let rest = eights_zero k (drop 8 s) (simp length-drop (omega (arith, h))) in
    let on : drop (suc k * 8) s ≡ drop (k * 8) (drop 8 s) = sym (drop-drop (k * 8) 8 s ∙ ap (λ (n : ℕ). drop n s) (omega arith)) in
    rw (front, on) (and_assoc (all_zero (take 8 s)) (list_all (λ e. pointwise eqb e (replicate 8 0)) (first_chunks 8 k (drop 8 s))) (all_zero (drop (k * 8) (drop 8 s))) ∙ ap (λ (b : Bool). all_zero (take 8 s) && b) rest ∙ sym (all-parts (λ x. eqb x 0) s 0 8))
