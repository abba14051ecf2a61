-- UTF-16LE loses nothing: a code point's octets lead back to it, whatever comes after.
use Rattle.std.proofs.Common.{Option, None, Some, option_map, is_some}
use mathlib.Core.Path.{◌≡◌, refl, sym, ap, ◌∙◌}
use mathlib.Core.Bool.{Bool, true, false}
use mathlib.Core.List.{List, ◌∷◌, ◌++◌}
use Prim.Native.Nat.{ℕ, ◌+◌, ◌*◌, ◌%◌, ◌≤◌, ◌<◌}
use native.Mathlib.Omega.{arith}
use lib.Dec.{ltb}
use borrow.Author.Tests.{ltb-true, ltb-false}
use Rattle.octets.proofs.Laws.Lists.{Every, true_not_false}
use Rattle.octets.proofs.Laws.Text.{within_range, without_range}
use Rattle.unicode_text.specs.Utf8.{Partial, point, more, points, is_utf8}
use Rattle.unicode_text.specs.Utf16.{high_unit, low_unit, point_octets, points_octets, utf16, lead16, follow16, points_from16, points_of16, utf8_from16, OneText}
use Rattle.unicode_text.proofs.Laws.Codec.{Code, back-all}
use Rattle.unicode_text.proofs.Laws.Utf8.{points_comes}
use Rattle.unicode_text.proofs.Laws.Utf16.{one_unit, two-units}

-- a high surrogate was read
abbrev pub after_high_lem : ℕ → Partial
after_high_lem u = record { left = 1; low = 0xDC00; high = 0xDFFF; bits = 0x40 + u % 1024 }

-- what one unit leads to, by where it lies
module _ (u : ℕ) where
  pub lead_plain : (0xD800 ≤ u → 0xE000 ≤ u) → lead16 u ≡ point u
  unfolding lead16
  lead_plain h = rw (without_range 0xD800 0xDBFF u (λ q. omega (arith, h q)), without_range 0xDC00 0xDFFF u (λ q. omega (arith, h (omega arith))))

  pub lead_high : 0xD800 ≤ u → u ≤ 0xDBFF → lead16 u ≡ more (after_high_lem u)
  unfolding lead16
  lead_high h k = rw (within_range 0xD800 0xDBFF u h k)

  pub follow-low : (v : ℕ) → 0xDC00 ≤ v → v ≤ 0xDFFF → follow16 (after_high_lem u) v ≡ point ((0x40 + u % 1024) * 1024 + v % 1024)
  unfolding follow16
  follow-low v h k = rw (within_range 0xDC00 0xDFFF v h k)

module _ (c : ℕ) (rest : List ℕ) (h : Code c) where
  abbrev LedBack : Type 0
  LedBack = points_of16 (point_octets c ++ rest) ≡ option_map (λ cs. c ∷ cs) (points_of16 rest)

  one-back : c < 0x10000 → LedBack
  unfolding points_from16
  one-back k =
      let u = one_unit c k in
      ap (λ (x : List ℕ). points_of16 (x ++ rest)) u.2 ∙ rw (u.3, lead_plain c h.unique) refl

  -- the two surrogates' bits make the code point again
  bits_back : 0x10000 ≤ c → (0x40 + high_unit c % 1024) * 1024 + low_unit c % 1024 ≡ c
  bits_back k = omega (arith, h.below)

  pair_back : 0x10000 ≤ c → LedBack
  unfolding points_from16
  pair_back k =
      let u = two-units c k h.below in
      let a : high_unit c ≤ 0xDBFF = omega (arith, h.below) in
      ap (λ (x : List ℕ). points_of16 (x ++ rest)) u.4
      ∙ rw (u.5, u.6, lead_high (high_unit c) (omega arith) a, follow-low (high_unit c) (low_unit c) (omega arith) (omega arith), bits_back k) refl

  led_back : LedBack
  led_back = go (ltb c 0x10000) refl
    where
      go : (b : Bool) → ltb c 0x10000 ≡ b → LedBack
      go true e = one-back (ltb-true c 0x10000 e)
      go false e = pair_back (ltb-false c 0x10000 e)

points-back : (cs : List ℕ) → Every Code cs → points_of16 (points_octets cs) ≡ Some cs
unfolding points_from16
points-back cs h = back-all point_octets points_of16 refl led_back cs h

-- a text that is UTF-8 comes back by its code points
pub text-back : (t : List ℕ) → is_utf8 t ≡ true → utf8_from16 (utf16 t) ≡ Some t
unfolding is_utf8 utf16 utf8_from16
text-back t u = go (points t) refl u
  where
    go : (o : Option (List ℕ)) → points t ≡ o → is_some o ≡ true → utf8_from16 (utf16 t) ≡ Some t
    go None q v = absurd (true_not_false (sym v))
    go (Some cs) q v =
        let r = points_comes t cs q in
        rw (q, points-back cs r.0) (ap Some r.1)

pub one-text : OneText
one-text x y u v e =
    let k : Some x ≡ Some y = sym (text-back x u) ∙ ap utf8_from16 e ∙ text-back y v in
    cc
