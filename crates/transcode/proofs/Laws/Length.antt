-- How many octets a UTF-16LE text takes in UTF-8: at most three for a unit's two, and at least one.
use Rattle.std.proofs.Common.{Some}
use mathlib.Core.Path.{◌≡◌, ap, subst}
use mathlib.Core.List.{List, [], ◌∷◌, flat_map}
use Rattle.octets.proofs.Laws.Option.{mapped_some}
use Prim.Native.Nat.{ℕ, ◌+◌, ◌*◌, ◌%◌, ◌≤◌}
use native.Mathlib.Omega.{arith}
use lib.Dec.{ltb}
use lib.ListN.{length, length-append}
use borrow.Author.Tests.{ltb-true}
use Rattle.octets.specs.{Number.little, Text.within}
use Rattle.octets.proofs.Laws.Lists.{none_not_some, cond_has}
use Rattle.unicode_text.specs.Utf8.{Decoded, bad, point, more, Decoder, between, partway, on_decoded, utf8_of}
use Rattle.unicode_text.specs.Utf16.{is_high, is_low, point_octets, points_octets, lead16, follow16, decode16, points_from16, points_of16, utf8_from16}
use Rattle.unicode_text.proofs.Laws.Utf8.{units}
use Rattle.unicode_text.proofs.Laws.Utf16.{point-length}

-- of one code point
abbrev Sizes : ℕ → List ℕ → Type 0
Sizes c octets = (1 ≤ length octets) × (0x80 ≤ c → 2 ≤ length octets) × (length octets ≤ 3 * units c)

sizes : (c : ℕ) → Sizes c (utf8_of c)
unfolding utf8_of
sizes c =
    cond_has (Sizes c) (ltb c 0x80) _ _ (λ a. (omega arith, λ h. absurd (omega (arith, ltb-true c 0x80 a)), omega (arith, unit))) (λ a.
    cond_has (Sizes c) (ltb c 0x800) _ _ (λ b. (omega arith, λ h. omega arith, omega (arith, unit))) (λ b.
    cond_has (Sizes c) (ltb c 0x10000) _ _ (λ d. (omega arith, λ h. omega arith, omega (arith, unit))) (λ d. (omega arith, λ h. omega arith, rw d (omega arith)))))
  where
    unit : 1 ≤ units c
    unit = cond_has (λ (n : ℕ). 1 ≤ n) (ltb c 0x10000) 1 2 (λ e. omega arith) (λ e. omega arith)

-- ---- at most three for a unit's two

pub three_a_unit : (c : ℕ) → 2 * length (utf8_of c) ≤ 3 * length (point_octets c)
three_a_unit c = omega (arith, (sizes c).2, point-length c)

pub three_each : (cs : List ℕ) → 2 * length (flat_map utf8_of cs) ≤ 3 * length (points_octets cs)
unfolding flat_map
three_each [] = omega arith
three_each (c ∷ cs) = simp length-append (omega (arith, three_a_unit c, three_each cs))

-- ---- at least one, whatever numbers the text is of

-- a high surrogate that was read has two octets of the text, and bits that make its code point one of two octets at least
abbrev Begun : Decoder → Type 0
Begun between = Unit {0}
Begun (partway i) = 1 ≤ i.bits

abbrev before : Decoder → ℕ
before between = 0
before (partway i) = 2

-- n octets of the text have led to this
abbrev Covered : ℕ → Decoded → Type 0
Covered n bad = Unit {0}
Covered n (point c) = n ≤ 2 * length (utf8_of c)
Covered n (more i) = (1 ≤ i.bits) × (n ≤ 2)

covered : (d : Decoder) (u : ℕ) → Begun d → Covered (before d + 2) (decode16 d u)
unfolding lead16 follow16
covered between u h =
    cond_has (Covered 2) (is_high u) _ _ (λ e. (omega arith, omega arith)) (λ e.
    cond_has (Covered 2) (is_low u) _ _ (λ f. tt) (λ f. omega (arith, (sizes u).0)))
covered (partway i) u h = cond_has (Covered 4) (within i.low i.high u) _ _ (λ e. omega (arith, (sizes (i.bits * 1024 + u % 1024)).1 (omega arith))) (λ e. tt)

one_from : (s : List ℕ) (d : Decoder) (cs : List ℕ) → Begun d → points_from16 d s ≡ Some cs → before d + length s ≤ 2 * length (flat_map utf8_of cs)
unfolding points_from16 flat_map
one_from [] between cs h e = omega arith
one_from [] (partway i) cs h e = absurd (none_not_some cs e)
one_from (x ∷ []) d cs h e = absurd (none_not_some cs e)
one_from (x ∷ y ∷ s) d cs h e = turn (decode16 d (little (x ∷ y ∷ []))) (covered d (little (x ∷ y ∷ [])) h) e (λ n ds k q. one_from s n ds k q)
  where
    turn : (v : Decoded) → Covered (before d + 2) v → on_decoded v (λ n. points_from16 n s) ≡ Some cs
        → ((n : Decoder) (ds : List ℕ) → Begun n → points_from16 n s ≡ Some ds → before n + length s ≤ 2 * length (flat_map utf8_of ds))
        → before d + length (x ∷ y ∷ s) ≤ 2 * length (flat_map utf8_of cs)
    turn bad p q f = absurd (none_not_some cs q)
    turn (more i) p q f = omega (arith, p.1, f (partway i) cs p.0 q)
    turn (point c) p q f =
        let r = mapped_some (λ ds. c ∷ ds) (points_from16 between s) q in
        subst (λ (l : List ℕ). before d + length (x ∷ y ∷ s) ≤ 2 * length (flat_map utf8_of l)) r.2 (simp length-append (omega (arith, p, f between r.0 tt r.1)))

pub one_a_unit : (s t : List ℕ) → utf8_from16 s ≡ Some t → length s ≤ 2 * length t
unfolding utf8_from16
one_a_unit s t e =
    let r = mapped_some (flat_map utf8_of) (points_of16 s) e in
    omega (arith, one_from s between r.0 tt r.1, ap length r.2)
