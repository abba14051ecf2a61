use Rattle.octets.specs.Lists.{any}
use Rattle.table_blocks.proofs.layout.any_records_layout.Goals as goal

pub returns : goal.returns
unfolding any
returns c =
    rw (
      c.records_layout.ensures,
      c.records_layout-2.ensures,
      c.records_layout-3.ensures,
      c.records_layout-4.ensures,
    )
