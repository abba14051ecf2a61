use Rattle.std.proofs.Common.{◌≡◌, drop}
use Rattle.table.specs.Block.{blocks_of}
use Rattle.table.specs.Countings.{block_place}
use Rattle.table.specs.Server.{server_place}
use Rattle.tablecheck.specs.Internal.First.{first_wrong}
use Rattle.tablecheck.proofs.first.first_wrong.Given as goal

abbrev pub invariant-loop-i : goal.invariant-loop-i
invariant-loop-i l = first_wrong l.rule (block_place l.i) (drop l.i (blocks_of l.image)) ≡ first_wrong l.rule server_place (blocks_of l.image)
