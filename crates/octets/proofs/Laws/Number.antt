-- Laws of numbers in octets.
use mathlib.Core.Path.{◌≡◌, refl, ap, ap₂, ◌∙◌}
use mathlib.Core.Bool.{Bool, true, false}
use mathlib.Core.List.{List, [], ◌∷◌, reverse-reverse}
use Prim.Native.Nat.{ℕ, zero, suc, ◌+◌, ◌-◌, ◌*◌, ◌/◌, ◌%◌, ◌^◌, ◌≤◌, ◌<◌}
use native.Mathlib.Nat.{zero-mul, mod-lt, div-eq_of_lt, div-lt_iff_lt-mul, pow-suc, add-zero}
use native.Mathlib.Omega.{arith}
use lib.Bits.{bit_and, and_high}
use lib.Dec.{eqb, ltb}
use lib.ListN.{length, get_or, take, drop}
use lib.Pow.{pow_pos, split, shr_mod}
use lib.Seq.{get_or-drop}
use borrow.Author.Tests.{eq-eqb, ne_eqb, ltb-true, ltb-false}
use Rattle.octets.specs.Lists.{cut}
use Rattle.octets.proofs.Laws.Lists.{cut-cons}
use Rattle.octets.specs.Number.{little, big, little_octets, big_octets}

-- a number has none of the j bits from k on exactly where it is below 2 ^ k
pub no_high-bits : (x j k : ℕ) → x < 2 ^ (j + k) → eqb (bit_and x (2 ^ (j + k) - 2 ^ k)) 0 ≡ ltb x (2 ^ k)
no_high-bits x j k h = ap (λ (y : ℕ). eqb y 0) (and_high x j k ∙ ap (λ (q : ℕ). q * 2 ^ k) (shr_mod j k h)) ∙ go (ltb x (2 ^ k)) refl
  where
    go : (t : Bool) → ltb x (2 ^ k) ≡ t → eqb (x / 2 ^ k * 2 ^ k) 0 ≡ t
    go true e = eq-eqb (x / 2 ^ k * 2 ^ k) 0 (ap (λ (q : ℕ). q * 2 ^ k) (div-eq_of_lt (ltb-true x (2 ^ k) e)) ∙ zero-mul (2 ^ k))
    go false e =
        let whole : x / 2 ^ k * 2 ^ k + x % 2 ^ k ≡ x = split x k in
        let low : x % 2 ^ k < 2 ^ k = mod-lt x (pow_pos k) in
        let large : 2 ^ k ≤ x = ltb-false x (2 ^ k) e in
        ne_eqb (x / 2 ^ k * 2 ^ k) 0 (λ z. omega arith)

-- a number by its first octet
pub little-cons : (s : List ℕ) (at w : ℕ) → at < length s → little (cut s at (suc w)) ≡ get_or s at 0 + 256 * little (cut s (at + 1) w)
unfolding little
little-cons s at w h = rw (cut-cons s at w 0)

pub u16-octets : (s : List ℕ) (at : ℕ) → at + 2 ≤ length s → little (cut s at 2) ≡ get_or s at 0 + 256 * get_or s (at + 1) 0
unfolding little
u16-octets s at h = omega (arith, little-cons s at 1 (omega arith), little-cons s (at + 1) 0 (omega arith))

-- the octets of a stretch of two or four, one by one
cut-two : (s : List ℕ) (at : ℕ) → at + 2 ≤ length s → cut s at 2 ≡ get_or s at 0 ∷ get_or s (at + 1) 0 ∷ []
cut-two s at h = cut-cons s at 1 0 (omega arith) ∙ ap (λ (l : List ℕ). get_or s at 0 ∷ l) (cut-cons s (at + 1) 0 0 (omega arith))

cut_four : (s : List ℕ) (at : ℕ) → at + 4 ≤ length s → cut s at 4 ≡ get_or s at 0 ∷ get_or s (at + 1) 0 ∷ cut s (at + 2) 2
cut_four s at h =
    let e : at + 1 + 1 ≡ at + 2 = omega arith in
    cut-cons s at 3 0 (omega arith)
    ∙ ap (λ (l : List ℕ). get_or s at 0 ∷ l) (cut-cons s (at + 1) 2 0 (omega arith) ∙ ap (λ (i : ℕ). get_or s (at + 1) 0 ∷ cut s i 2) e)

pub u32_halves : (s : List ℕ) (at : ℕ) → at + 4 ≤ length s → little (cut s at 4) ≡ little (cut s at 2) + 65536 * little (cut s (at + 2) 2)
unfolding little
u32_halves s at h = rw (cut_four s at h, cut-two s at (omega arith)) (omega arith)

pub u32_octets : (s : List ℕ) (at : ℕ) → at + 4 ≤ length s
    → little (cut s at 4) ≡ get_or s at 0 + 256 * get_or s (at + 1) 0 + 65536 * get_or s (at + 2) 0 + 16777216 * get_or s (at + 3) 0
u32_octets s at h =
    let e : at + 2 + 1 ≡ at + 3 = omega arith in
    let high = u16-octets s (at + 2) (omega arith) ∙ ap (λ (i : ℕ). get_or s (at + 2) 0 + 256 * get_or s i 0) e in
    omega (arith, u32_halves s at h, u16-octets s at (omega arith), high)

pub big-one : (s : List ℕ) (at : ℕ) → at < length s → big (cut s at 1) ≡ get_or s at 0
unfolding big little
big-one s at h = rw (cut-cons s at 0 0) (omega arith)

pub big-two : (s : List ℕ) (at : ℕ) → at + 2 ≤ length s → big (cut s at 2) ≡ 256 * get_or s at 0 + get_or s (at + 1) 0
unfolding big little
big-two s at h = rw (cut-two s at h) (omega arith)

-- A number written in w octets is read back, and its octets are w.

pub length-little : (w n : ℕ) → length (little_octets w n) ≡ w
unfolding little_octets
length-little zero n = refl
length-little (suc w) n = ap suc (length-little w (n / 256))

pub little-back : (w n : ℕ) → n < 256 ^ w → little (little_octets w n) ≡ n
unfolding little little_octets
little-back zero n h = omega arith
little-back (suc w) n h =
    let a : n < 256 ^ w * 256 = rw pow-suc at h in
    let b : n / 256 < 256 ^ w = (div-lt_iff_lt-mul {k = 256} {x = n} {y = 256 ^ w} (omega arith)).1 a in
    rw (little-back w (n / 256) b) (omega arith)

pub big-back : (w n : ℕ) → n < 256 ^ w → big (big_octets w n) ≡ n
unfolding big big_octets
big-back w n h = rw (reverse-reverse (little_octets w n)) (little-back w n h)

-- the same where octets are missing: those count as 0
pub u16_anywhere : (s : List ℕ) (at : ℕ) → little (cut s at 2) ≡ get_or s at 0 + 256 * get_or s (at + 1) 0
unfolding little
u16_anywhere s at = two (drop at s) ∙ ap₂ (λ (x y : ℕ). x + 256 * y) (get_or-drop at s 0 0 ∙ ap (λ (i : ℕ). get_or s i 0) (add-zero at)) (get_or-drop at s 1 0)
  where
    two : (l : List ℕ) → little (take 2 l) ≡ get_or l 0 0 + 256 * get_or l 1 0
    two [] = refl
    two (x ∷ []) = refl
    two (x ∷ y ∷ l) = omega arith
