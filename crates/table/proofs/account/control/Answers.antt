use Rattle.table.specs.Account.{account_of}
use Rattle.table.proofs.account.control.Goals as goal

pub returns : goal.returns
unfolding account_of
returns c = c.u32_in.ensures
