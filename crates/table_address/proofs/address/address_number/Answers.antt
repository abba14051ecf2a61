use native.Mathlib.Omega.{arith}
use Rattle.table.specs.Address.{address_number}
use Rattle.table_address.proofs.address.address_number.Goals as goal

pub returns : goal.returns
unfolding address_number
returns c = omega arith
