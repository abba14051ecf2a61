use Rattle.std.proofs.Common.{◌≡◌, Bool, List, ℕ, drop}
use Rattle.table.specs.Block.{blocks_of}
use Rattle.table_find.specs.Internal.Search.{TestsAs, first_in}
use Rattle.table_search.proofs.search.first_record.Given as goal

abbrev pub invariant-loop-i : goal.invariant-loop-i
invariant-loop-i g l =
    (t : List ℕ → Bool) → TestsAs g.F.Fn l.test t → first_in l.fn.kind t (drop l.i (blocks_of l.octets)) ≡ first_in l.fn.kind t (blocks_of l.octets)
