use mathlib.Core.Path.{◌≡◌}
use lib.ListN.{drop}
use Rattle.table.specs.Block.{blocks_of}
use Rattle.table.specs.Countings.{block_place}
use Rattle.table.specs.Server.{server_place}
use Rattle.table_layout.specs.Layout.{layouts_from}
use Rattle.table_blocks.proofs.layout.good_layouts.Given as goal

abbrev pub invariant-loop-i : goal.invariant-loop-i
invariant-loop-i l = layouts_from (block_place l.i) (drop l.i (blocks_of l.image)) ≡ layouts_from server_place (blocks_of l.image)
