-- What neighbours in a list show of its order.
use Rattle.std.specs.Prelude.{List, [], ◌∷◌, ℕ}
use Rattle.std.specs.declared.cmp.Ordering.{Ordering}
use Rattle.std.specs.declared.cmp.Ordering.TheVariants.{Less, Equal, Greater}
use Rattle.table_unique.specs.declared.unique.Neighbours.{Neighbours}
use Rattle.table_unique.specs.declared.unique.Neighbours.TheVariants.{Rising, Duplicate, Unsorted}

abbrev pub rising_then : Ordering → Neighbours → Neighbours
rising_then Less rest = rest
rising_then Equal rest = Duplicate
rising_then Greater rest = Unsorted

-- the first two that are not in order decide
unfoldable pub neighbours_by : (ℕ → ℕ → Ordering) → List ℕ → Neighbours
neighbours_by compare [] = Rising
neighbours_by compare (x ∷ []) = Rising
neighbours_by compare (x ∷ y ∷ s) = rising_then (compare x y) (neighbours_by compare (y ∷ s))
