-- Octets that lead to code points as UTF-16LE are those of these code points.
use Rattle.std.proofs.Common.{Some}
use mathlib.Core.Path.{◌≡◌, refl, sym, ap₂, ◌∙◌, subst}
use mathlib.Core.Bool.{false}
use mathlib.Core.List.{List, [], ◌∷◌, ◌++◌, append_assoc, flat_map}
use Prim.Native.Nat.{ℕ, ◌+◌, ◌*◌, ◌/◌, ◌%◌, ◌≤◌, ◌<◌}
use native.Mathlib.Omega.{arith}
use borrow.Author.Tests.{leb-false, le-leb}
use Rattle.octets.specs.{Number.little, Number.little_octets, Text.within}
use Rattle.octets.proofs.Laws.Lists.{Every, none_not_some, cond_has}
use Rattle.octets.proofs.Laws.Text.{within_low, within-high}
use Rattle.unicode_text.specs.Utf8.{Partial, Decoded, opens, Decoder, between, partway}
use Rattle.unicode_text.specs.Utf16.{is_high, is_low, high_unit, low_unit, point_octets, points_octets, lead16, follow16, decode16, points_from16, points_of16}
use Rattle.unicode_text.proofs.Laws.Codec.{Code, Comes, Before, After, turn_comes}
use Rattle.unicode_text.proofs.Laws.Utf16.{one_unit_octets, two-units-octets}

past_range : (low high n : ℕ) → within low high n ≡ false → low ≤ n → high < n
past_range low high n e h = leb-false n high (rw (le-leb low n h) at e)

-- a unit and its octets
unit_octets : (a b : ℕ) → a < 256 → b < 256 → little_octets 2 (little (a ∷ b ∷ [])) ≡ a ∷ b ∷ []
unfolding little_octets little
unit_octets a b h k =
    let n : ℕ = a + 256 * (b + 256 * 0) in
    let e : n % 256 ≡ a = omega arith in
    let f : n / 256 ≡ b = omega arith in
    let g : b % 256 ≡ b = omega arith in
    cc

-- whatever unit in range comes after the octets p, the code point's octets are p and its own
abbrev Owes16 : Partial → List ℕ → Type 0
Owes16 i p = (a b : ℕ) → a < 256 → b < 256 → i.low ≤ little (a ∷ b ∷ []) → little (a ∷ b ∷ []) ≤ i.high
    → Code (i.bits * 1024 + little (a ∷ b ∷ []) % 1024) × (point_octets (i.bits * 1024 + little (a ∷ b ∷ []) % 1024) ≡ p ++ (a ∷ b ∷ []))

pair_point : (u v c : ℕ) → 0xD800 ≤ u → u ≤ 0xDBFF → 0xDC00 ≤ v → v ≤ 0xDFFF → c ≡ (0x40 + u % 1024) * 1024 + v % 1024 → Code c × (point_octets c ≡ little_octets 2 u ++ little_octets 2 v)
pair_point u v c h k m n e =
    let x : high_unit c ≡ u = omega arith in
    let y : low_unit c ≡ v = omega arith in
    (record { below = omega arith; unique = omega arith }, two-units-octets c (omega arith) ∙ rw (x, y) refl)

module _ (a b : ℕ) (h : a < 256) (k : b < 256) where
  abbrev unit : ℕ
  unit = little (a ∷ b ∷ [])

  lead_after : After point_octets Owes16 (lead16 unit) (a ∷ b ∷ [])
  unfolding lead16 little
  lead_after =
      cond_has P (is_high unit) _ _ (λ u. pair (within_low 0xD800 0xDBFF unit u) (within-high 0xD800 0xDBFF unit u)) (λ u.
      cond_has P (is_low unit) _ _ (λ v. tt) (λ v.
      (record { below = omega arith; unique = λ q. past_range 0xDC00 0xDFFF unit v (past_range 0xD800 0xDBFF unit u q) }, one_unit_octets unit (omega arith) ∙ unit_octets a b h k)))
    where
      P : Decoded → Type 0
      P d = After point_octets Owes16 d (a ∷ b ∷ [])

      pair : 0xD800 ≤ unit → unit ≤ 0xDBFF → P (opens 1 0xDC00 0xDFFF (0x40 + unit % 1024))
      pair m n d e hd he p q =
          let r = pair_point unit (little (d ∷ e ∷ [])) _ m n p q refl in
          (r.0, r.1 ∙ ap₂ (λ (x y : List ℕ). x ++ y) (unit_octets a b h k) (unit_octets d e hd he))

  follow-after : (i : Partial) (p : List ℕ) → Owes16 i p → After point_octets Owes16 (follow16 i unit) (p ++ (a ∷ b ∷ []))
  unfolding follow16
  follow-after i p s =
      cond_has (λ (d : Decoded). After point_octets Owes16 d (p ++ (a ∷ b ∷ []))) (within i.low i.high unit) _ _
      (λ q. s a b h k (within_low i.low i.high unit q) (within-high i.low i.high unit q)) (λ q. tt)

  decode-after : (d : Decoder) (p : List ℕ) → Before point_octets Owes16 d p → After point_octets Owes16 (decode16 d unit) (p ++ (a ∷ b ∷ []))
  decode-after between p e = subst (λ (q : List ℕ). After point_octets Owes16 (lead16 unit) (q ++ (a ∷ b ∷ []))) (sym e) lead_after
  decode-after (partway i) p s = follow-after i p s

comes_from : (xs : List ℕ) (d : Decoder) (p cs : List ℕ) → Every (λ x. x < 256) xs → Before point_octets Owes16 d p → points_from16 d xs ≡ Some cs → Comes point_octets (p ++ xs) cs
unfolding points_from16 flat_map
comes_from [] between p cs z b e = let k : [] ≡ cs = cc in subst (λ (q : List ℕ). Comes point_octets (q ++ []) cs) (sym b) (subst (Comes point_octets []) k (tt, refl))
comes_from [] (partway i) p cs z b e = absurd (none_not_some cs e)
comes_from (x ∷ []) d p cs z b e = absurd (none_not_some cs e)
comes_from (x ∷ y ∷ xs) d p cs z b e =
    let r : Comes point_octets ((p ++ (x ∷ y ∷ [])) ++ xs) cs =
    turn_comes point_octets Owes16 (decode16 d (little (x ∷ y ∷ []))) (p ++ (x ∷ y ∷ [])) xs cs (λ n. points_from16 n xs)
    (decode-after x y z.0 z.1.0 d p b) e (λ n q ds c k. comes_from xs n q ds z.1.1 c k) in
    (r.0, r.1 ∙ append_assoc p (x ∷ y ∷ []) xs)

pub points16_comes : (s cs : List ℕ) → Every (λ x. x < 256) s → points_of16 s ≡ Some cs → Every Code cs × (points_octets cs ≡ s)
points16_comes s cs z e = comes_from s between [] cs z refl e
