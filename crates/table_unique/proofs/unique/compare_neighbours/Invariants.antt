use Rattle.std.proofs.Common.{◌≡◌, ◌-◌, drop}
use Rattle.table_unique.specs.Internal.Neighbours.{neighbours_by}
use Rattle.table_unique.proofs.unique.compare_neighbours.Given as goal

abbrev pub invariant-loop-i : goal.invariant-loop-i
invariant-loop-i g l = let compare = g.K.Keyed.compare l.records in neighbours_by compare (drop (l.i - 1) l.offsets) ≡ neighbours_by compare l.offsets
