use Rattle.octets.specs.Number.{big_octets, little_octets}
use Rattle.names.specs.Name.{pointer_to}
use Rattle.names.proofs.plan.PlannedName.size.Goals as goal

pub returns-in-Some : goal.returns-in-Some
unfolding pointer_to big_octets little_octets
returns-in-Some c = rw c.in-Some.is
