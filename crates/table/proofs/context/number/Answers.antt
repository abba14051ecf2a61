use mathlib.Core.Path.{ap}
use Rattle.table.specs.Countings.{context_number}
use Rattle.table.specs.Context.{context_of}
use Rattle.table.proofs.context.number.Goals as goal

pub returns : goal.returns
unfolding context_of
returns c = ap context_number c.u16_in.ensures
