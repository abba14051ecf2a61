use Rattle.table_layout.specs.Layout.{block_layout}
use Rattle.table_blocks.proofs.layout.block_layout.Goals as goal

pub returns : goal.returns
unfolding block_layout
returns c =
    rw (
      c.version_of.ensures,
      c.eq.ensures,
      c.place_of-own.ensures,
      c.body_layout.ensures,
      c.kind_of.ensures,
      c.body_of.ensures,
    )
