-- The first wrong block of what is left, block by block.
use mathlib.Core.Path.{◌≡◌, refl}
use mathlib.Core.Bool.{true, false}
use mathlib.Core.List.{List, [], ◌∷◌}
use Prim.Native.Nat.{ℕ}
use Rattle.table.specs.declared.BlockPlace.{BlockPlace}
use Rattle.table.specs.Countings.{next_place}
use Rattle.tablecheck.specs.declared.first.BlockRule.{BlockRule}
use Rattle.tablecheck.specs.Internal.First.{keeps, first_wrong}

-- the block at a place, and those after it
module _ (rule : BlockRule) (place : BlockPlace) (block : List ℕ) (blocks : List (List ℕ)) where
  pub first_here : keeps rule place block ≡ false → place.0 ≡ first_wrong rule place (block ∷ blocks)
  unfolding first_wrong
  first_here e = rw e

  pub first_next : keeps rule place block ≡ true → first_wrong rule (next_place place) blocks ≡ first_wrong rule place (block ∷ blocks)
  unfolding first_wrong
  first_next e = rw e

pub first-end : (rule : BlockRule) (place : BlockPlace) → place.0 ≡ first_wrong rule place []
unfolding first_wrong
first-end rule place = refl
