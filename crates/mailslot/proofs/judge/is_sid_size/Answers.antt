use borrow.Author.Rules.{rules}
use Rattle.mailslot.proofs.judge.is_sid_size.Goals as goal

pub returns : goal.returns
returns c = rw c.wide.ensures.0
