use Rattle.std.proofs.Common.{◌≡◌, None, drop}
use Rattle.table.specs.declared.record.RecordKind.TheVariants as kind
use Rattle.table.specs.Block.{blocks_of}
use Rattle.table_find.specs.Internal.Found.{LiesIn, subnet_at}
use Rattle.table_find.specs.Internal.Nearest.{nearest_in}
use Rattle.table_search.proofs.nearest.nearest_subnet.Given as goal

abbrev pub invariant-loop-i : goal.invariant-loop-i
invariant-loop-i l =
    LiesIn l.octets kind.Subnet l.best
    × (nearest_in l.address (subnet_at l.octets l.best) (drop l.i (blocks_of l.octets)) ≡ nearest_in l.address None (blocks_of l.octets))
