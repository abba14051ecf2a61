-- Laws of a code point at an offset of a UTF-16LE text, one for each way that the code leaves.
use Rattle.std.proofs.Common.{None, Some}
use mathlib.Core.Path.{◌≡◌, refl, sym, ap, ◌∙◌}
use mathlib.Core.Bool.{true, false, ◌||◌}
use mathlib.Core.List.{List, [], ◌∷◌}
use Prim.Native.Nat.{ℕ, ◌+◌, ◌*◌, ◌%◌, ◌≤◌, ◌<◌}
use native.Mathlib.Omega.{arith}
use lib.Dec.{leb, ltb}
use lib.ListN.{length, take, drop, length-drop, drop_of_length-le}
use lib.Seq.{drop-drop}
use borrow.Author.Tests.{leb-true, leb-false, ltb-false, le-ltb}
use Rattle.octets.specs.Number.{little, little_octets, u16_at}
use Rattle.octets.proofs.Laws.Lists.{neither_left, neither_right, other_right}
use Rattle.octets.proofs.Laws.Text.{within_range, without_range}
use Rattle.unicode_text.specs.declared.utf8.PointAt.TheVariants.{Bad, Point}
use Rattle.unicode_text.specs.Utf8.{Partial, bad, Decoder, between, partway, on_decoded}
use Rattle.unicode_text.specs.Utf16.{lead16, follow16, decode16, points_from16, points_of16}
use Rattle.unicode_text.proofs.Laws.OneText.{after_high_lem, lead_plain, lead_high, follow-low}
use Rattle.unicode_text.proofs.Laws.Utf16.{one_unit_octets, two-units-octets}
use Rattle.transcode.specs.Internal.Point16.{PointRead16}

-- a unit outside a range, or in it, by the test that the code makes
module _ (low after u : ℕ) where
  pub outside : (ltb u low || leb after u) ≡ true → low ≤ u → after ≤ u
  outside e h = leb-true after u (other_right (ltb u low) (leb after u) e (le-ltb u low h))

  pub inside : (ltb u low || leb after u) ≡ false → (low ≤ u) × (u < after)
  inside e = (ltb-false u low (neither_left (ltb u low) (leb after u) e), leb-false after u (neither_right (ltb u low) (leb after u) e))

lead_low : (u : ℕ) → 0xDC00 ≤ u → u ≤ 0xDFFF → lead16 u ≡ bad
unfolding lead16
lead_low u h k = rw (without_range 0xD800 0xDBFF u (λ q. omega arith), within_range 0xDC00 0xDFFF u h k)

follow_other : (u v : ℕ) → (0xDC00 ≤ v → 0xE000 ≤ v) → follow16 (after_high_lem u) v ≡ bad
unfolding follow16
follow_other u v h = rw (without_range 0xDC00 0xDFFF v (λ q. omega (arith, h q)))

-- by the first unit that is left
opened : (d : Decoder) (l : List ℕ) → 2 ≤ length l → points_from16 d l ≡ on_decoded (decode16 d (little (take 2 l))) (λ n. points_from16 n (drop 2 l))
unfolding points_from16
opened d [] h = absurd (omega arith)
opened d (x ∷ []) h = absurd (omega arith)
opened d (x ∷ y ∷ l) h = refl

-- half a unit is left; or less than a unit after a high surrogate
half : (l : List ℕ) → 1 ≤ length l → length l < 2 → points_of16 l ≡ None
unfolding points_from16
half [] h k = absurd (omega arith)
half (x ∷ []) h k = refl
half (x ∷ y ∷ l) h k = absurd (omega arith)

alone : (i : Partial) (l : List ℕ) → length l < 2 → points_from16 (partway i) l ≡ None
unfolding points_from16
alone i [] k = refl
alone i (x ∷ []) k = refl
alone i (x ∷ y ∷ l) k = absurd (omega arith)

module _ (s : List ℕ) (at : ℕ) where
  pub end-points : length s ≤ at → points_of16 (drop at s) ≡ Some []
  unfolding points_from16
  end-points h = rw (drop_of_length-le s)

  pub half_unit : at < length s → length s < at + 2 → PointRead16 s at Bad
  half_unit h k = half (drop at s) (simp length-drop (omega arith)) (simp length-drop (omega arith))

  module _ (u : ℕ) (e : u ≡ u16_at s at) (h : at + 2 ≤ length s) where
    -- what is left at the unit u
    by_unit : (d : Decoder) → points_from16 d (drop at s) ≡ on_decoded (decode16 d u) (λ n. points_from16 n (drop (at + 2) s))
    by_unit d =
        opened d (drop at s) (simp length-drop (omega arith))
        ∙ ap (λ (l : List ℕ). on_decoded (decode16 d (u16_at s at)) (λ n. points_from16 n l)) (drop-drop 2 at s)
        ∙ ap (λ (v : ℕ). on_decoded (decode16 d v) (λ n. points_from16 n (drop (at + 2) s))) (sym e)

    pub plain_unit : u < 0x10000 → (0xD800 ≤ u → 0xE000 ≤ u) → PointRead16 s at (Point u (at + 2))
    unfolding little_octets
    plain_unit b k = (omega arith, h, omega arith, by_unit between ∙ rw (lead_plain u k) refl, sym (ap (λ (l : List ℕ). at + length l) (one_unit_octets u b)))

    pub low_unit_lem : 0xDC00 ≤ u → u ≤ 0xDFFF → PointRead16 s at Bad
    low_unit_lem k m = by_unit between ∙ rw (lead_low u k m) refl

    module _ (k : 0xD800 ≤ u) (m : u ≤ 0xDBFF) where
      high_unit_lem : points_of16 (drop at s) ≡ points_from16 (partway (after_high_lem u)) (drop (at + 2) s)
      high_unit_lem = by_unit between ∙ rw (lead_high u k m) refl

      pub high-alone : length s < at + 4 → PointRead16 s at Bad
      high-alone n = high_unit_lem ∙ alone (after_high_lem u) (drop (at + 2) s) (simp length-drop (omega arith))

-- a high surrogate, and a unit after it
module _ (s : List ℕ) (at u : ℕ) (e : u ≡ u16_at s at) (h : at + 4 ≤ length s) (k : 0xD800 ≤ u) (m : u ≤ 0xDBFF) (v : ℕ) (f : v ≡ u16_at s (at + 2)) where
  by_both : points_of16 (drop at s) ≡ on_decoded (decode16 (partway (after_high_lem u)) v) (λ n. points_from16 n (drop (at + 4) s))
  by_both =
      let q : at + 2 + 2 ≡ at + 4 = omega arith in
      high_unit_lem s at u e (omega arith) k m
      ∙ by_unit s (at + 2) v f (omega arith) (partway (after_high_lem u))
      ∙ ap (λ (i : ℕ). on_decoded (decode16 (partway (after_high_lem u)) v) (λ n. points_from16 n (drop i s))) q

  pub pair_unit : 0xDC00 ≤ v → v ≤ 0xDFFF → PointRead16 s at (Point ((0x40 + u % 1024) * 1024 + v % 1024) (at + 4))
  unfolding little_octets
  pair_unit n o =
      let c : ℕ = (0x40 + u % 1024) * 1024 + v % 1024 in
      (omega arith, h, omega arith, by_both ∙ rw (follow-low u v n o) refl, sym (ap (λ (l : List ℕ). at + length l) (two-units-octets c (omega arith))))

  pub high-lone : (0xDC00 ≤ v → 0xE000 ≤ v) → PointRead16 s at Bad
  high-lone n = by_both ∙ rw (follow_other u v n) refl
