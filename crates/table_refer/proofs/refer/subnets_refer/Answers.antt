use native.Mathlib.Omega.{arith}
use mathlib.Core.Path.{◌∙◌, ap}
use lib.ListN.{length}
use Rattle.octets.proofs.Laws.Lists.{cut-length}
use Rattle.table.specs.Block.{body_offset, body_size}
use Rattle.table_refer.proofs.refer.subnets_refer.Goals as goal

pub all_records_refer-requires : goal.all_records_refer-requires
all_records_refer-requires c = ap length c.body_of.ensures ∙ cut-length c.args.block.now body_offset body_size (omega (arith, c.requires))
