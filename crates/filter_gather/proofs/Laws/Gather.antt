-- Laws of gathering one clause after the other.
use mathlib.Core.Path.{◌≡◌, refl}
use mathlib.Core.List.{List, [], ◌∷◌, ◌++◌}
use Prim.Native.Nat.{ℕ}
use Rattle.filter_position.specs.declared.position.RawClause.{RawClause}
use Rattle.filter_gather.specs.Internal.Gather.{Gathered, added, all_added}

-- what is gathered from clauses, and then from more
pub added-append : (s : List ℕ) (g : Gathered) (xs ys : List RawClause) → all_added s g (xs ++ ys) ≡ all_added s (all_added s g xs) ys
unfolding all_added
added-append s g [] ys = refl
added-append s g (x ∷ xs) ys = added-append s (added s g x) xs ys
