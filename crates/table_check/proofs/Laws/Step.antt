-- A step leaves what its octets taken singly leave; and the sums of a step, one octet after the other.
use mathlib.Core.Path.{◌≡◌, refl, sym, ap, ◌∙◌}
use mathlib.Core.List.{List, [], ◌∷◌, ◌++◌}
use Prim.Native.Nat.{ℕ, suc, ◌+◌, ◌-◌, ◌*◌, ◌/◌, ◌%◌, ◌≤◌, ◌<◌}
use native.Mathlib.Omega.{arith}
use native.Mathlib.Nat.{mul-add, add-mul, mul_left_comm, mod-add-mod}
use native.Mathlib.Numerals.{add-one}
use lib.ListN.{length, get_or, drop, length-drop, drop_of_length-le, take-append-drop}
use lib.Seq.{drop-cons, drop-drop}
use Rattle.octets.specs.Lists.{cut}
use Rattle.table_check.specs.declared.check.Check.{Check}
use Rattle.table_check.specs.Check.{grow, grown}
use Rattle.table_check.specs.Step.{sum, counted, step, StepAsSingly}

-- a factor may be reduced
factor_mod : (p k q : ℕ) → (p + k * (q % 65536)) % 65536 ≡ (p + k * q) % 65536
factor_mod p k q =
    let e : q ≡ q % 65536 + 65536 * (q / 65536) = omega arith in
    let f : k * q ≡ k * (q % 65536) + 65536 * (k * (q / 65536)) =
    ap (λ (n : ℕ). k * n) e ∙ mul-add k (q % 65536) (65536 * (q / 65536)) ∙ ap (λ (n : ℕ). k * (q % 65536) + n) (mul_left_comm k 65536 (q / 65536)) in
    omega (arith, f)

-- what one octet and then a step over n more leave in b
octet_first : (a b x n w : ℕ) → ((b + (a + x) % 65536) % 65536 + n * ((a + x) % 65536) + w) % 65536 ≡ (b + (n + 1) * a + ((n + 1) * x + w)) % 65536
octet_first a b x n w =
    let A : ℕ = (a + x) % 65536 in
    let apart : (b + A) % 65536 + n * A + w ≡ (b + A) % 65536 + (n * A + w) = omega arith in
    let joined : b + A + (n * A + w) ≡ b + w + (n + 1) * A = omega (arith, add-mul n 1 A) in
    let spread : b + w + (n + 1) * (a + x) ≡ b + (n + 1) * a + ((n + 1) * x + w) = omega (arith, mul-add (n + 1) a x) in
    ap (λ (k : ℕ). k % 65536) apart
    ∙ mod-add-mod (b + A) 65536 (n * A + w)
    ∙ ap (λ (k : ℕ). k % 65536) joined
    ∙ factor_mod (b + w) (n + 1) (a + x)
    ∙ ap (λ (k : ℕ). k % 65536) spread

pub step_as_singly : StepAsSingly
unfolding step grown sum counted
step_as_singly c [] h k =
    let a : (c.a + 0) % 65536 ≡ c.a = omega (arith, h) in
    let b : (c.b + 0 * c.a + 0) % 65536 ≡ c.b = omega (arith, k) in
    λ j. record { a = a j; b = b j }
step_as_singly c (x ∷ xs) h k =
    let n : ℕ = length xs in
    let apart : c.a + (x + sum xs) ≡ c.a + x + sum xs = omega arith in
    let a : (c.a + (x + sum xs)) % 65536 ≡ ((c.a + x) % 65536 + sum xs) % 65536 = ap (λ (m : ℕ). m % 65536) apart ∙ sym (mod-add-mod (c.a + x) 65536 (sum xs)) in
    let b : (c.b + suc n * c.a + (suc n * x + counted xs)) % 65536 ≡ ((c.b + (c.a + x) % 65536) % 65536 + n * ((c.a + x) % 65536) + counted xs) % 65536 =
    ap (λ (m : ℕ). (c.b + m * c.a + (m * x + counted xs)) % 65536) (sym (add-one n)) ∙ sym (octet_first c.a c.b x n (counted xs)) in
    (λ j. record { a = a j; b = b j }) ∙ step_as_singly (grow c x) xs (omega arith) (omega arith)

-- what a step leaves is below 65,536
pub step_below : (c : Check) (octets : List ℕ) → ((step c octets).a < 65536) × ((step c octets).b < 65536)
unfolding step
step_below c octets = (omega arith, omega arith)

-- octets in two parts
grown-append : (c : Check) (xs ys : List ℕ) → grown c (xs ++ ys) ≡ grown (grown c xs) ys
unfolding grown
grown-append c [] ys = refl
grown-append c (x ∷ xs) ys = grown-append (grow c x) xs ys

-- n octets, and those behind them
pub grown-cut : (c : Check) (s : List ℕ) (i n : ℕ) → grown (grown c (cut s i n)) (drop (i + n) s) ≡ grown c (drop i s)
grown-cut c s i n =
    sym (grown-append c (cut s i n) (drop (i + n) s))
    ∙ ap (λ (r : List ℕ). grown c (cut s i n ++ r)) (sym (drop-drop n i s))
    ∙ ap (grown c) (take-append-drop n (drop i s))

-- the sums from an octet on
module _ (s : List ℕ) (i : ℕ) (h : i < length s) where
  pub sum-next : sum (drop i s) ≡ get_or s i 0 + sum (drop (i + 1) s)
  unfolding sum
  sum-next = rw (drop-cons s i 0 h, add-one i)

  pub counted_next : counted (drop i s) ≡ (length s - i) * get_or s i 0 + counted (drop (i + 1) s)
  unfolding counted
  counted_next =
      let n : suc (length (drop (suc i) s)) ≡ length s - i = omega (arith, length-drop (suc i) s, h) in
      ap counted (drop-cons s i 0 h)
      ∙ ap (λ (m : ℕ). m * get_or s i 0 + counted (drop (suc i) s)) n
      ∙ ap (λ (k : ℕ). (length s - i) * get_or s i 0 + counted (drop k s)) (sym (add-one i))

-- nothing is left at the end
module _ (s : List ℕ) (i : ℕ) (h : length s ≤ i) where
  pub sum-end : sum (drop i s) ≡ 0
  unfolding sum
  sum-end = rw (drop_of_length-le s h)

  pub counted-end : counted (drop i s) ≡ 0
  unfolding counted
  counted-end = rw (drop_of_length-le s h)
