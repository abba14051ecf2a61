use Rattle.std.proofs.Common.{◌∙◌, arith}
use Rattle.table.specs.Block.{blocks_of}
use Rattle.table_records.proofs.Laws.Offset.{format_fits, used_records}
use Rattle.table_records.proofs.offset.offsets_of.Goals as goal

pub kind_offsets-requires : goal.kind_offsets-requires
kind_offsets-requires c = rw c.format_of-format.ensures (c.requires.0, format_fits c.args.kind, c.requires.1)

pub returns-clause-out_after : goal.returns-clause-out_after
returns-clause-out_after c = rw c.format_of-format.ensures at c.kind_offsets.ensures.out_after ∙ used_records c.args.kind (blocks_of c.args.image.now)
