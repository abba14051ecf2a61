use Rattle.table.specs.Server.{server_of}
use Rattle.table.proofs.server.roles.Goals as goal

pub returns : goal.returns
unfolding server_of
returns c = c.u32_in.ensures
