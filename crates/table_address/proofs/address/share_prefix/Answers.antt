use Rattle.table.specs.Address.{share_prefix}
use Rattle.table_address.proofs.address.share_prefix.Goals as goal

pub returns : goal.returns
unfolding share_prefix
returns c = rw (c.network_of.ensures, c.network_of-2.ensures)
