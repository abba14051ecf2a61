use borrow.Author.Tests.{eq-eqb, ne_eqb}
use Rattle.unicode_text.proofs.utf8.second_bound.Goals as goal

pub returns-then-lead-one : goal.returns-then-lead-one
returns-then-lead-one c = rw (eq-eqb _ _ c.if-lead-one.true)

pub returns : goal.returns
returns c = rw (ne_eqb _ _ c.if-lead-one.false)
