use mathlib.Core.Path.{sym, ◌∙◌}
use Rattle.table_layout.specs.Layout.{body_layout}
use Rattle.table_blocks.proofs.layout.body_layout.Goals as goal

pub returns-then-eq : goal.returns-then-eq
unfolding body_layout
returns-then-eq c = rw (sym c.eq.ensures ∙ c.if-eq.true, c.server_layout.ensures)

pub returns-then-eq-2 : goal.returns-then-eq-2
unfolding body_layout
returns-then-eq-2 c = rw (sym c.eq.ensures ∙ c.if-eq.false, sym c.eq-2.ensures ∙ c.if-eq-2.true, c.forest_layout.ensures)

pub returns : goal.returns
unfolding body_layout
returns c = rw (sym c.eq.ensures ∙ c.if-eq.false, sym c.eq-2.ensures ∙ c.if-eq-2.false) c.any_records_layout.ensures
