-- The reader's turn at one filter of an AND, with what was gathered before it.
use Rattle.std.proofs.Common.{Option, None, Some, option_map}
use mathlib.Core.Path.{◌≡◌, refl, sym, ap, ◌∙◌}
use mathlib.Core.Bool.{true, false}
use mathlib.Core.List.{List, ◌++◌}
use Prim.Native.Nat.{ℕ, zero, suc, ◌-◌, ◌<◌}
use native.Mathlib.Nat.{not-suc-le-zero}
use native.Mathlib.Omega.{arith}
use borrow.Author.Tests.{eq-eqb, ne_eqb}
use lib.Dec.{eqb}
use Rattle.filter_position.specs.declared.position.FilterRead.{FilterRead}
use Rattle.filter_position.specs.declared.position.RawClause.{RawClause}
use Rattle.filter_position.specs.Filter.{◌>>=◌, siblings, and_of}
use Rattle.filter_position.specs.Internal.Position.{filter_at, clauses_in}
use Rattle.filter_position.proofs.Laws.Position.{then, siblings-read}
use Rattle.filter_gather.specs.Internal.Gather.{Gathered, Wrong, Good, gathered_from, all_added}
use Rattle.filter_gather.proofs.Laws.Gather.{added-append}

module _ (d : ℕ) (s : List ℕ) (end : ℕ) (g : Gathered) where
  pub turn_wrong : (k at : ℕ) → filter_at s at end ≡ None → gathered_from s g (siblings (and_of d) k s at end) ≡ Wrong
  unfolding siblings
  turn_wrong zero at e = refl
  turn_wrong (suc k) at e = ap (gathered_from s g) (siblings-read d s end k at ∙ ap (λ (x : Option FilterRead). x >>= then d s end k) e)

  module _ (at : ℕ) (r : FilterRead) (e : filter_at s at end ≡ Some r) where
    turned : (k : ℕ) → gathered_from s g (siblings (and_of d) (suc k) s at end) ≡ gathered_from s g (then d s end k r)
    turned k = ap (gathered_from s g) (siblings-read d s end k at ∙ ap (λ (x : Option FilterRead). x >>= then d s end k) e)

    pub turn-bad : (k : ℕ) → gathered_from s g (clauses_in d s r.filter) ≡ Wrong → gathered_from s g (siblings (and_of d) k s at end) ≡ Wrong
    unfolding siblings
    turn-bad zero h = refl
    turn-bad (suc k) h = turned k ∙ by (clauses_in d s r.filter) h
      where
        by : (o : Option (List RawClause)) → gathered_from s g o ≡ Wrong
            → gathered_from s g (o >>= λ xs. elim (eqb r.rest.at end) [ true ↦ Some xs | false ↦ option_map (λ ys. xs ++ ys) (siblings (and_of d) k s r.rest.at end) ]) ≡ Wrong
        by None q = refl
        by (Some xs) q = let z : ◌≡◌ {A = ℕ} 0 1 = cc in absurd (omega arith)

    module _ (b : Gathered) (h : gathered_from s g (clauses_in d s r.filter) ≡ Good b) where
      pub turn_last : (k : ℕ) → 0 < k → r.rest.at ≡ end → gathered_from s g (siblings (and_of d) k s at end) ≡ Good b
      turn_last zero l q = absurd (not-suc-le-zero l)
      turn_last (suc k) l q = turned k ∙ rw (eq-eqb r.rest.at end q) (by (clauses_in d s r.filter) h)
        where
          by : (o : Option (List RawClause)) → gathered_from s g o ≡ Good b → gathered_from s g (o >>= λ xs. Some xs) ≡ Good b
          by None p = p
          by (Some xs) p = p

      pub turn-next : (k : ℕ) → 0 < k → (r.rest.at ≡ end → ⊥) → gathered_from s b (siblings (and_of d) (k - 1) s r.rest.at end) ≡ gathered_from s g (siblings (and_of d) k s at end)
      turn-next zero l q = absurd (not-suc-le-zero l)
      turn-next (suc k) l q =
          let m : suc k - 1 ≡ k = omega arith in
          sym (turned k ∙ rw (ne_eqb r.rest.at end q) (by (clauses_in d s r.filter) h) ∙ ap (λ (j : ℕ). gathered_from s b (siblings (and_of d) j s r.rest.at end)) (sym m))
        where
          join : (xs : List RawClause) (o : Option (List RawClause)) → all_added s g xs ≡ b → gathered_from s g (option_map (λ ys. xs ++ ys) o) ≡ gathered_from s b o
          join xs None p = refl
          join xs (Some ys) p = ap Good (added-append s g xs ys ∙ ap (λ (x : Gathered). all_added s x ys) p)

          by : (o : Option (List RawClause)) → gathered_from s g o ≡ Good b
              → gathered_from s g (o >>= λ xs. option_map (λ ys. xs ++ ys) (siblings (and_of d) k s r.rest.at end)) ≡ gathered_from s b (siblings (and_of d) k s r.rest.at end)
          by None p = let z : ◌≡◌ {A = ℕ} 0 1 = cc in absurd (omega arith)
          by (Some xs) p = join xs (siblings (and_of d) k s r.rest.at end) (cc)
