use mathlib.Core.Path.{ap}
use Rattle.table.specs.Countings.{block_place}
use Rattle.table.proofs.block.place_of.Goals as goal

pub returns : goal.returns
returns c = ap block_place c.u16_in.ensures
