-- The layouts of what is left, block by block.
use mathlib.Core.Path.{◌≡◌, refl}
use mathlib.Core.Bool.{true, false}
use mathlib.Core.List.{List, [], ◌∷◌}
use Prim.Native.Nat.{ℕ}
use Rattle.table.specs.declared.BlockPlace.{BlockPlace}
use Rattle.table.specs.Countings.{next_place}
use Rattle.table_layout.specs.Layout.{block_layout, layouts_from}

-- the block at a place, and those after it
module _ (place : BlockPlace) (block : List ℕ) (blocks : List (List ℕ)) where
  pub layouts_fail : block_layout place block ≡ false → false ≡ layouts_from place (block ∷ blocks)
  unfolding layouts_from
  layouts_fail e = rw e

  pub layouts_next : block_layout place block ≡ true → layouts_from (next_place place) blocks ≡ layouts_from place (block ∷ blocks)
  unfolding layouts_from
  layouts_next e = rw e

pub layouts_end : (place : BlockPlace) → true ≡ layouts_from place []
unfolding layouts_from
layouts_end place = refl
