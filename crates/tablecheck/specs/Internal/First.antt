-- The first block of an image that breaks a rule.
use Rattle.std.specs.Prelude.{Bool, cond, List, [], ◌∷◌, ℕ}
use Rattle.table.specs.Countings.{next_place}
use Rattle.table.specs.declared.BlockPlace.{BlockPlace}
use Rattle.table_check.specs.Check.{good_check}
use Rattle.table_layout.specs.Layout.{block_layout}
use Rattle.tablecheck.specs.declared.first.BlockRule.{BlockRule}
use Rattle.tablecheck.specs.declared.first.BlockRule.TheVariants.{Check, Layout}

abbrev pub keeps : BlockRule → BlockPlace → List ℕ → Bool
keeps Check place block = good_check block
keeps Layout place block = block_layout place block

-- the place of the first block, from a place on, that breaks a rule; the place after the last where none does
unfoldable pub first_wrong : BlockRule → BlockPlace → List (List ℕ) → ℕ
first_wrong rule place [] = place.0
first_wrong rule place (block ∷ blocks) = cond (keeps rule place block) (first_wrong rule (next_place place) blocks) place.0
