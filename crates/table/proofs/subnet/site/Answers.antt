use Rattle.table.specs.Subnet.{subnet_of}
use Rattle.table.proofs.subnet.site.Goals as goal

pub returns : goal.returns
unfolding subnet_of
returns c = c.reference_in.ensures
