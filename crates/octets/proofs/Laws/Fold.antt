-- Laws of Unicode's folding: the table that the pairs make, and what it says of a code point.
use mathlib.Core.Path.{◌≡◌, refl, ap, ◌∙◌}
use mathlib.Core.Bool.{Bool, true, false, cond}
use mathlib.Core.List.{List, [], ◌∷◌}
use Prim.Native.Nat.{ℕ, zero, suc, ◌+◌, ◌≤◌, ◌<◌}
use native.Mathlib.Nat.{not-suc-le-zero}
use native.Mathlib.Omega.{arith}
use lib.Dec.{eqb, ltb}
use lib.ListN.{length, get_or}
use borrow.Author.Tests.{lt-ltb, le-ltb, ltb-true, ltb-false}
use Rattle.octets.specs.Fold.{fold_end, fold_pairs, fold_from, fold_table_lem, fold_point, FoldsAsPaired}
use Rattle.octets.specs.Lists.{all, any}
use Rattle.octets.proofs.Laws.Lists.{neither_left, neither_right, cond_has}

pub table-size : length fold_table_lem ≡ fold_end
unfolding fold_table_lem fold_from fold_pairs
table-size = refl

pub fold_below : (c : ℕ) → c < fold_end → fold_point c ≡ get_or fold_table_lem c 0
unfolding fold_point
fold_below c h = rw (lt-ltb c fold_end h)

pub fold_past : (c : ℕ) → fold_end ≤ c → fold_point c ≡ c
unfolding fold_point
fold_past c h = rw (le-ltb c fold_end h)

-- the entry of a code point k is k, where no pair is its own
entry_alone : (n c : ℕ) (pairs : List (ℕ × ℕ)) (i k : ℕ) → c + i ≡ k → i < n → any (λ p. eqb p.0 k) pairs ≡ false → get_or (fold_from n c pairs) i 0 ≡ k
unfolding fold_from any
entry_alone zero c pairs i k q h e = absurd (not-suc-le-zero h)
entry_alone (suc n) c [] zero k q h e = omega arith
entry_alone (suc n) c [] (suc i) k q h e = entry_alone n (c + 1) [] i k (omega arith) (omega arith) refl
entry_alone (suc n) c (p ∷ pairs) zero k q h e =
    let same : c ≡ k = omega arith in
    rw (ap (eqb p.0) same ∙ neither_left (eqb p.0 k) (any (λ p. eqb p.0 k) pairs) e) same
entry_alone (suc n) c (p ∷ pairs) (suc i) k q h e =
    entry_alone n (c + 1) (cond (eqb p.0 c) pairs (p ∷ pairs)) i k (omega arith) (omega arith)
    (cond_has (λ l. any (λ p. eqb p.0 k) l ≡ false) (eqb p.0 c) pairs (p ∷ pairs) (λ b. neither_right (eqb p.0 k) (any (λ p. eqb p.0 k) pairs) e) (λ b. e))

fold_alone : (c : ℕ) → any (λ p. eqb p.0 c) fold_pairs ≡ false → fold_point c ≡ c
unfolding fold_table_lem
fold_alone c e = go (ltb c fold_end) refl
  where
    go : (b : Bool) → ltb c fold_end ≡ b → fold_point c ≡ c
    go true q = let h : c < fold_end = ltb-true c fold_end q in fold_below c h ∙ entry_alone fold_end 0 fold_pairs c c (omega arith) h e
    go false q = fold_past c (ltb-false c fold_end q)

-- by computation, over all of them
counted : length fold_pairs ≡ 441
unfolding fold_pairs
counted = refl

pairs_fold : all (λ p. eqb (fold_point p.0) p.1) fold_pairs ≡ true
unfolding fold_pairs fold_from fold_table_lem fold_point all
pairs_fold = refl

letters : (fold_point 0xD8 ≡ 0xF8) × (fold_point 0x23A ≡ 0x2C65) × (fold_point 0xDF ≡ 0xDF)
unfolding fold_pairs fold_from fold_table_lem fold_point
letters = (refl, refl, refl)

pub folds_as_paired : FoldsAsPaired
folds_as_paired =
    record {
      pairs = counted;
      entries = table-size;
      paired = pairs_fold;
      alone = fold_alone;
      past = fold_past;
      o_with_stroke = letters.0;
      a_with_stroke = letters.1;
      sharp_s = letters.2;
    }
