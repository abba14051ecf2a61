use Rattle.std.proofs.Common.{rules}
use Rattle.table.specs.Subnet.{same_network}
use Rattle.table_records.proofs.alike.SubnetsAlike.are_alike.Goals as goal

pub returns : goal.returns
unfolding same_network
returns c = search rules
