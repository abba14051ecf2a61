use mathlib.Core.Path.{ap}
use Rattle.table.specs.Countings.{context_number}
use Rattle.table.specs.Server.{server_of}
use Rattle.table.proofs.server.default_context.Goals as goal

pub returns : goal.returns
unfolding server_of
returns c = ap context_number c.u16_in.ensures
