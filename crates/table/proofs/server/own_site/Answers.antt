use mathlib.Core.Path.{ap}
use Rattle.table.specs.Countings.{site_number}
use Rattle.table.specs.Server.{server_of}
use Rattle.table.proofs.server.own_site.Goals as goal

pub returns : goal.returns
unfolding server_of
returns c = ap site_number c.u16_in.ensures
