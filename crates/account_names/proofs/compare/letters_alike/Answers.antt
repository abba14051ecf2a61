use mathlib.Core.Path.{sym, ap, ap₂}
use lib.Dec.{eqb}
use borrow.Author.Tests.{eq-eqb}
use Rattle.octets.specs.Text.{lower}
use Rattle.account_names.proofs.compare.letters_alike.Goals as goal

pub returns-then-x-y : goal.returns-then-x-y
returns-then-x-y c = sym (eq-eqb _ _ (ap lower c.if-x-y.true))

pub returns : goal.returns
returns c = ap₂ eqb c.folded.ensures c.folded-2.ensures
