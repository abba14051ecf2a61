-- UTF-8 loses nothing: a code point's octets lead back to it, by the laws of a code point at an offset, which here is the text's first.
use Rattle.std.proofs.Common.{Some, option_map}
use mathlib.Core.Path.{◌≡◌, refl}
use mathlib.Core.Bool.{Bool, true, false, cond}
use mathlib.Core.List.{List, [], ◌∷◌, ◌++◌, flat_map}
use Prim.Native.Nat.{ℕ, ◌+◌, ◌*◌, ◌/◌, ◌%◌, ◌≤◌, ◌<◌}
use native.Mathlib.Omega.{arith}
use lib.Dec.{eqb, ltb}
use borrow.Author.Tests.{ltb-true, ltb-false, eqb-true, lt-ltb}
use Rattle.octets.proofs.Laws.Lists.{Every, cond_has}
use Rattle.octets.proofs.Laws.Text.{within_range}
use Rattle.unicode_text.specs.Utf8.{lead, points_from, points, utf8_of}
use Rattle.unicode_text.specs.Internal.Point.{SixBits}
use Rattle.unicode_text.proofs.Laws.Codec.{Code, back-all}
use Rattle.unicode_text.proofs.Laws.Point.{six-at, some-low, two-point, three_point, four_point}

six-bits : (low high x r : ℕ) → low ≤ x → x ≤ high → r ≡ x % 64 → SixBits x low high r
six-bits low high x r h k e = (λ q. (within_range low high x h k, e), λ q. absurd (omega arith))

-- the bound of a second octet, which is another behind one lead
above : (x one its y : ℕ) → (x ≡ one → its ≤ y) → 0x80 ≤ y → cond (eqb x one) its 0x80 ≤ y
above x one its y h k = cond_has (λ (n : ℕ). n ≤ y) (eqb x one) its 0x80 (λ e. h (eqb-true x one e)) (λ e. k)

below : (x one its y : ℕ) → (x ≡ one → y ≤ its) → y ≤ 0xBF → y ≤ cond (eqb x one) its 0xBF
below x one its y h k = cond_has (λ (n : ℕ). y ≤ n) (eqb x one) its 0xBF (λ e. h (eqb-true x one e)) (λ e. k)

module _ (c : ℕ) (rest : List ℕ) where
  abbrev LedBack : List ℕ → Type 0
  LedBack octets = points (octets ++ rest) ≡ option_map (λ cs. c ∷ cs) (points rest)

  back_one : c < 0x80 → LedBack (c ∷ [])
  unfolding points_from lead
  back_one h = rw (lt-ltb c 0x80 h)

  module _ (x y : ℕ) where
    back-two : 0x80 ≤ c → c < 0x800 → x ≡ 0xC0 + c / 64 → y ≡ 0x80 + c % 64 → LedBack (x ∷ y ∷ [])
    back-two h k e f =
        let s : List ℕ = x ∷ y ∷ rest in
        (two-point s 0 x (c % 64) (omega arith, refl, omega arith, omega arith)
        (six-at s 1 y 0x80 0xBF (c % 64) refl (omega arith) (six-bits 0x80 0xBF y (c % 64) (omega arith) (omega arith) (omega arith)))
        c (omega arith) (omega arith)).3

    module _ (z : ℕ) where
      back_three : Code c → 0x800 ≤ c → c < 0x10000 → x ≡ 0xE0 + c / 4096 → y ≡ 0x80 + c / 64 % 64 → z ≡ 0x80 + c % 64 → LedBack (x ∷ y ∷ z ∷ [])
      back_three scalar h k e f g =
          let s : List ℕ = x ∷ y ∷ z ∷ rest in
          let low : ℕ = cond (eqb x 0xE0) 0xA0 0x80 in
          let high : ℕ = cond (eqb x 0xED) 0x9F 0xBF in
          (three_point s 0 x (c / 64 % 64) (c % 64) low high (omega arith, refl, omega arith, omega arith) refl refl
          (six-at s 1 y low high (c / 64 % 64) refl (some-low (eqb x 0xE0) low 0xA0 (omega arith) refl)
          (six-bits low high y (c / 64 % 64) (above x 0xE0 0xA0 y (λ q. omega arith) (omega arith)) (below x 0xED 0x9F y (unpaired (ltb c 0xD800) refl) (omega arith)) (omega arith)))
          (omega arith)
          (six-at s 2 z 0x80 0xBF (c % 64) refl (omega arith) (six-bits 0x80 0xBF z (c % 64) (omega arith) (omega arith) (omega arith)))
          c (omega arith) (omega arith)).3
        where
          -- behind EDh: c is no surrogate
          unpaired : (b : Bool) → ltb c 0xD800 ≡ b → x ≡ 0xED → y ≤ 0x9F
          unpaired true q r = omega (arith, ltb-true c 0xD800 q, e, f)
          unpaired false q r = absurd (omega (arith, scalar.unique (ltb-false c 0xD800 q), e, r))

      back_four : (w : ℕ) → 0x10000 ≤ c → c < 0x110000 → x ≡ 0xF0 + c / 262144 → y ≡ 0x80 + c / 4096 % 64 → z ≡ 0x80 + c / 64 % 64 → w ≡ 0x80 + c % 64 → LedBack (x ∷ y ∷ z ∷ w ∷ [])
      back_four w h k e f g m =
          let s : List ℕ = x ∷ y ∷ z ∷ w ∷ rest in
          let low : ℕ = cond (eqb x 0xF0) 0x90 0x80 in
          let high : ℕ = cond (eqb x 0xF4) 0x8F 0xBF in
          let least : 16 ≤ c / 4096 = omega arith in
          let most : c / 4096 < 272 = omega arith in
          let first : x % 8 ≡ c / 262144 = omega arith in
          let q : c / 4096 ≡ c / 262144 * 64 + c / 4096 % 64 = omega arith in
          let r : c / 64 ≡ c / 4096 * 64 + c / 64 % 64 = omega arith in
          (four_point s 0 x (c / 4096 % 64) (c / 64 % 64) low high (omega arith, refl, omega arith, omega arith) refl refl
          (six-at s 1 y low high (c / 4096 % 64) refl (some-low (eqb x 0xF0) low 0x90 (omega arith) refl)
          (six-bits low high y (c / 4096 % 64) (above x 0xF0 0x90 y (λ n. omega (arith, least, q, n, e, f)) (omega arith)) (below x 0xF4 0x8F y (λ n. omega (arith, most, q, n, e, f)) (omega arith)) (omega arith)))
          (omega arith)
          (six-at s 2 z 0x80 0xBF (c / 64 % 64) refl (omega arith) (six-bits 0x80 0xBF z (c / 64 % 64) (omega arith) (omega arith) (omega arith)))
          (c % 64) (omega arith)
          (six-at s 3 w 0x80 0xBF (c % 64) refl (omega arith) (six-bits 0x80 0xBF w (c % 64) (omega arith) (omega arith) (omega arith)))
          c (omega arith) (omega arith)).3

  led_back : Code c → LedBack (utf8_of c)
  unfolding utf8_of
  led_back h =
      cond_has LedBack (ltb c 0x80) _ _ (λ a. back_one (ltb-true c 0x80 a)) (λ a.
      cond_has LedBack (ltb c 0x800) _ _ (λ b. back-two _ _ (ltb-false c 0x80 a) (ltb-true c 0x800 b) refl refl) (λ b.
      cond_has LedBack (ltb c 0x10000) _ _ (λ d. back_three _ _ _ h (ltb-false c 0x800 b) (ltb-true c 0x10000 d) refl refl refl) (λ d.
      back_four _ _ _ _ (ltb-false c 0x10000 d) h.below refl refl refl refl)))

-- the octets of code points are UTF-8, and lead back to them
pub points-back : (cs : List ℕ) → Every Code cs → points (flat_map utf8_of cs) ≡ Some cs
unfolding points_from
points-back cs h = back-all utf8_of points refl led_back cs h
