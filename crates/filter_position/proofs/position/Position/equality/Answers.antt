use mathlib.Core.Path.{sym, ◌∙◌}
use borrow.Author.Tests.{eq-eqb, ne_eqb}
use Rattle.filter_position.specs.Filter.{equality}
use Rattle.filter_position.proofs.position.Position.equality.Goals as goal

pub returns-in_err-name-clause-value : goal.returns-in_err-name-clause-value
unfolding equality
returns-in_err-name-clause-value c = c.from_residual.ensures ∙ rw (equality, sym c.in_err-name.ensures.value)

pub returns-then-name-ne-STRING_TAG-clause-value : goal.returns-then-name-ne-STRING_TAG-clause-value
unfolding equality
returns-then-name-ne-STRING_TAG-clause-value c = rw (equality, sym c.in_ok-name.ensures.value, ne_eqb _ _ c.if-name-ne-STRING_TAG.true)

pub returns-in_err-value-clause-value : goal.returns-in_err-value-clause-value
unfolding equality
returns-in_err-value-clause-value c =
    c.from_residual-in_err-value.ensures ∙ rw (equality, sym c.in_ok-name.ensures.value, eq-eqb _ _ c.if-name-ne-STRING_TAG.false, sym c.in_err-value.ensures.value)

pub returns-then-value-ne-STRING_TAG-clause-value : goal.returns-then-value-ne-STRING_TAG-clause-value
unfolding equality
returns-then-value-ne-STRING_TAG-clause-value c =
    rw (equality, sym c.in_ok-name.ensures.value, eq-eqb _ _ c.if-name-ne-STRING_TAG.false, sym c.in_ok-value.ensures.value, ne_eqb _ _ c.if-value-ne-STRING_TAG.true)

pub returns-then-value-end-clause-value : goal.returns-then-value-end-clause-value
unfolding equality
returns-then-value-end-clause-value c =
    rw (equality, sym c.in_ok-name.ensures.value, eq-eqb _ _ c.if-name-ne-STRING_TAG.false, sym c.in_ok-value.ensures.value, eq-eqb _ _ c.if-value-ne-STRING_TAG.false, ne_eqb _ _ c.if-value-end.true)

pub returns-clause-value : goal.returns-clause-value
unfolding equality
returns-clause-value c =
    rw (equality, sym c.in_ok-name.ensures.value, eq-eqb _ _ c.if-name-ne-STRING_TAG.false, sym c.in_ok-value.ensures.value, eq-eqb _ _ c.if-value-ne-STRING_TAG.false, eq-eqb _ _ c.if-value-end.false)
