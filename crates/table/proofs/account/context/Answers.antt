use mathlib.Core.Path.{ap}
use Rattle.table.specs.Countings.{context_number}
use Rattle.table.specs.Account.{account_of}
use Rattle.table.proofs.account.context.Goals as goal

pub returns : goal.returns
unfolding account_of
returns c = ap context_number c.u16_in.ensures
