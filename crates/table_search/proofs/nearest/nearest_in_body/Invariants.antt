use Rattle.std.proofs.Common.{◌≡◌, drop}
use Rattle.octets.specs.Lists.{cut}
use Rattle.table.specs.declared.record.RecordKind.TheVariants as kind
use Rattle.table.specs.Block.{body_size}
use Rattle.table.specs.Format.{records_in}
use Rattle.table.specs.Subnet.{subnet_format}
use Rattle.table_find.specs.Internal.Found.{LiesIn, subnet_at}
use Rattle.table_find.specs.Internal.Nearest.{nearest_over, nearest_in_body}
use Rattle.table_search.proofs.nearest.nearest_in_body.Given as goal

abbrev pub invariant-loop-i : goal.invariant-loop-i
invariant-loop-i l =
    LiesIn l.image kind.Subnet l.best
    × (nearest_over l.address (subnet_at l.image l.best) (drop l.i (records_in subnet_format (cut l.image l.body body_size)))
    ≡ nearest_in_body l.address (subnet_at l.image l.fn.start) (cut l.image l.body body_size))
