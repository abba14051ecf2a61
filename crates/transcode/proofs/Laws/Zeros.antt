-- A zero octet of UTF-8 is a zero code point.
use Rattle.std.proofs.Common.{Some}
use mathlib.Core.Path.{◌≡◌, refl, sym, ap, ap₂, ◌∙◌}
use mathlib.Core.Bool.{Bool, true, false, not, ◌&&◌}
use mathlib.Core.List.{List, [], ◌∷◌, flat_map}
use Rattle.octets.proofs.Laws.Option.{mapped_some}
use Prim.Native.Nat.{ℕ, ◌≤◌}
use native.Mathlib.Omega.{arith}
use lib.Dec.{eqb, ltb}
use borrow.Author.Tests.{ne_eqb, eqb-true, eqb-false}
use Rattle.octets.specs.{Lists.all, Lists.holds, NameRule.without}
use Rattle.octets.proofs.Laws.Lists.{Every, all_every, every_weaken, all_append, cond_has}
use Rattle.unicode_text.specs.{Utf8.utf8_of, Utf16.points_of16, Utf16.utf8_from16}

some-octets : (c : ℕ) → 1 ≤ c → Every (λ x. 1 ≤ x) (utf8_of c)
unfolding utf8_of
some-octets c h =
    cond_has P (ltb c 0x80) _ _ (λ a. omega arith) (λ a.
    cond_has P (ltb c 0x800) _ _ (λ b. omega arith) (λ b.
    cond_has P (ltb c 0x10000) _ _ (λ d. omega arith) (λ d. omega arith)))
  where
    P : List ℕ → Type 0
    P = Every (λ x. 1 ≤ x)

zero_kept : (c : ℕ) → without 0 (utf8_of c) ≡ not (eqb c 0)
unfolding utf8_of all
zero_kept c = go (eqb c 0) refl
  where
    not_zero : (x : ℕ) → 1 ≤ x → not (eqb x 0) ≡ true
    not_zero x h = ap not (ne_eqb x 0 (λ e. omega arith))

    go : (b : Bool) → eqb c 0 ≡ b → without 0 (utf8_of c) ≡ not (eqb c 0)
    go true e = ap (λ (x : ℕ). without 0 (utf8_of x)) (eqb-true c 0 e) ∙ sym (ap not e)
    go false e =
        let n : c ≡ 0 → ⊥ = eqb-false c 0 e in
        all_every (λ x. not (eqb x 0)) (utf8_of c) (every_weaken (λ x. 1 ≤ x) (λ x. not (eqb x 0) ≡ true) not_zero (utf8_of c) (some-octets c (omega arith))) ∙ sym (ap not e)

pub zeros_kept : (cs : List ℕ) → without 0 (flat_map utf8_of cs) ≡ without 0 cs
unfolding all flat_map
zeros_kept [] = refl
zeros_kept (c ∷ cs) = all_append (λ y. not (eqb y 0)) (utf8_of c) (flat_map utf8_of cs) ∙ ap₂ (λ a b. a && b) (zero_kept c) (zeros_kept cs)

pub zeros-said : (s t : List ℕ) → utf8_from16 s ≡ Some t → without 0 t ≡ holds (without 0) (points_of16 s)
unfolding utf8_from16
zeros-said s t e =
    let r = mapped_some (flat_map utf8_of) (points_of16 s) e in
    ap (without 0) (sym r.2) ∙ zeros_kept r.0 ∙ sym (ap (holds (without 0)) r.1)
