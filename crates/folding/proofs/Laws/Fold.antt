-- Folding twice is folding once: one test over the whole table, carried to each entry.
use mathlib.Core.Path.{◌≡◌, refl, sym, ap, ap₂, ◌∙◌, subst}
use mathlib.Core.Bool.{Bool, true, false, ◌&&◌}
use mathlib.Core.List.{[], ◌∷◌}
use Prim.Native.Nat.{ℕ, zero, suc, ◌<◌}
use native.Mathlib.Nat.{not-suc-le-zero}
use native.Mathlib.Omega.{arith}
use lib.Dec.{eqb, ltb}
use lib.ListN.{get_or}
use borrow.Author.Tests.{ltb-true, ltb-false, eqb-true, eqb-false}
use Rattle.octets.specs.Fold.{fold_end, fold_pairs, fold_from, fold_table_lem, fold_point, fold_points}
use Rattle.octets.specs.Lists.{all}
use Rattle.octets.specs.Text.{lower}
use Rattle.octets.proofs.Laws.Fold.{table-size, fold_below, fold_past}
use Rattle.octets.proofs.Laws.Lists.{both_left, both_right, every_all, every_at}
use Rattle.folding.specs.FoldTwice.{FoldTwice}

-- a code point that stands for itself
abbrev stands_for : ℕ → Bool
stands_for c = eqb (fold_point c) c

table-stands : all stands_for fold_table_lem ≡ true
unfolding all fold_pairs fold_from fold_table_lem fold_point
table-stands = refl

entry_stands : (c : ℕ) → c < fold_end → fold_point (get_or fold_table_lem c 0) ≡ get_or fold_table_lem c 0
entry_stands c h =
    every_at (λ x. fold_point x ≡ x) fold_table_lem c 0 (every_all stands_for (λ x. fold_point x ≡ x) (λ x e. eqb-true (fold_point x) x e) fold_table_lem table-stands) (subst (λ (n : ℕ). c < n) (sym table-size) h)

fold_stands : (c : ℕ) → fold_point (fold_point c) ≡ fold_point c
fold_stands c = go (ltb c fold_end) refl
  where
    go : (b : Bool) → ltb c fold_end ≡ b → fold_point (fold_point c) ≡ fold_point c
    go true e =
        let h : c < fold_end = ltb-true c fold_end e in
        let below : fold_point c ≡ get_or fold_table_lem c 0 = fold_below c h in
        ap fold_point below ∙ entry_stands c h ∙ sym below
    go false e = ap fold_point (fold_past c (ltb-false c fold_end e))

pub fold_twice : FoldTwice
unfolding fold_points
fold_twice [] = refl
fold_twice (c ∷ cs) = ap₂ ◌∷◌ (fold_stands c) (fold_twice cs)

-- below 80h it is the folding of ASCII: one test over these, carried to each
abbrev holds_below : ℕ → (ℕ → Bool) → Bool
holds_below zero p = true
holds_below (suc n) p = p n && holds_below n p

holds_at : (n : ℕ) (p : ℕ → Bool) (c : ℕ) → holds_below n p ≡ true → c < n → p c ≡ true
holds_at zero p c e h = absurd (not-suc-le-zero h)
holds_at (suc n) p c e h = go (eqb c n) refl (holds_at n p c (both_right (p n) (holds_below n p) e))
  where
    go : (b : Bool) → eqb c n ≡ b → (c < n → p c ≡ true) → p c ≡ true
    go true f rest = ap p (eqb-true c n f) ∙ both_left (p n) (holds_below n p) e
    go false f rest = let k : c ≡ n → ⊥ = eqb-false c n f in rest (omega (arith, h, k))

ascii_folds : holds_below 0x80 (λ c. eqb (fold_point c) (lower c)) ≡ true
unfolding fold_pairs fold_from fold_table_lem fold_point lower
ascii_folds = refl

pub fold_ascii : (c : ℕ) → c < 0x80 → fold_point c ≡ lower c
fold_ascii c h = eqb-true (fold_point c) (lower c) (holds_at 0x80 (λ x. eqb (fold_point x) (lower x)) c ascii_folds h)
