use native.Mathlib.Nat.{div-add-mod'}
use native.Mathlib.Omega.{arith}
use Rattle.table.specs.Address.{network_of}
use Rattle.table_address.proofs.Laws.Address.{share_some}
use Rattle.table_address.proofs.address.network_of.Goals as goal

pub nonzero_div-result : goal.nonzero_div-result
nonzero_div-result c = rw c.share_size-share.ensures (share_some c.args.prefix)

pub overflow_mul-result : goal.overflow_mul-result
overflow_mul-result c = omega (arith, div-add-mod' c.args.address c.share_size-share.result)

pub returns : goal.returns
unfolding network_of
returns c = rw c.share_size-share.ensures
