use Rattle.table.specs.Address.{is_prefix_only}
use Rattle.table_address.proofs.address.is_prefix_only.Goals as goal

pub returns : goal.returns
unfolding is_prefix_only
returns c = rw c.network_of.ensures
