use borrow.Author.Rules.{rules}
use Rattle.mailslot_read.proofs.part.has_tokens.Goals as goal

pub returns : goal.returns
returns c = rw (c.u16_at.ensures, c.u16_at-2.ensures)
