use mathlib.Core.Path.{refl}
use native.Mathlib.Omega.{arith}
use Rattle.mailslot.specs.Message.{padding}
use borrow.Author.Rules.{rules}
use Rattle.mailslot.proofs.padding.padding_at.Goals as goal

pub returns : goal.returns
unfolding padding
returns c = (refl, omega arith)
