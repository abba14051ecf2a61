use mathlib.Core.Path.{◌∙◌}
use native.Mathlib.Omega.{arith}
use borrow.Author.Tests.{ne_eqb}
use borrow.Author.Rules.{rules}
use Rattle.mailslot.proofs.padding.sid_padding.Goals as goal

pub returns-then-size-eq0 : goal.returns-then-size-eq0
returns-then-size-eq0 c = (rw c.if-size-eq0.true, omega arith)

pub returns : goal.returns
returns c = (c.padding_at.ensures.0 ∙ rw (ne_eqb c.args.size 0 c.if-size-eq0.false), c.padding_at.ensures.1)
