use mathlib.Core.Path.{sym, ◌∙◌}
use borrow.Author.Tests.{eq-eqb, ne_eqb}
use Rattle.filter_position.specs.Internal.Position.{filter_in, filter_at}
use Rattle.filter_position.proofs.position.Position.filter.Goals as goal

pub returns-in_err-element-clause-value : goal.returns-in_err-element-clause-value
unfolding filter_at
returns-in_err-element-clause-value c = c.from_residual.ensures ∙ rw (filter_at, sym c.in_err-element.ensures.value)

pub returns-in_err-clause-clause-value : goal.returns-in_err-clause-clause-value
unfolding filter_in filter_at
returns-in_err-clause-clause-value c =
    c.from_residual-in_err-clause.ensures ∙ rw (filter_at, sym c.in_ok-element.ensures.value, filter_in, eq-eqb _ _ c.if-element.true, sym c.in_err-clause.ensures.value)

pub returns-then-element-clause-value : goal.returns-then-element-clause-value
unfolding filter_in filter_at
returns-then-element-clause-value c =
    rw (filter_at, sym c.in_ok-element.ensures.value, filter_in, eq-eqb _ _ c.if-element.true, sym c.in_ok-clause.ensures.value)

pub returns-then-element-2-clause-value : goal.returns-then-element-2-clause-value
unfolding filter_in filter_at
returns-then-element-2-clause-value c =
    rw (filter_at, sym c.in_ok-element.ensures.value, filter_in, ne_eqb _ _ c.if-element.false, ne_eqb _ _ c.if-element-2.true)

pub returns-clause-value : goal.returns-clause-value
unfolding filter_in filter_at
returns-clause-value c =
    rw (filter_at, sym c.in_ok-element.ensures.value, filter_in, ne_eqb _ _ c.if-element.false, eq-eqb _ _ c.if-element-2.false)
