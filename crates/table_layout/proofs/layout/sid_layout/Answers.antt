use mathlib.Core.Path.{sym, ◌∙◌}
use borrow.Author.Tests.{not-true, not-false}
use Rattle.table.specs.Context.{context_of}
use Rattle.table_layout.proofs.layout.sid_layout.Goals as goal

pub returns-then-not-has_sid : goal.returns-then-not-has_sid
unfolding context_of
returns-then-not-has_sid c = rw (sym c.has_sid.ensures ∙ not-true _ c.if-not-has_sid.true-raw) c.is_zero_room.ensures

pub returns : goal.returns
unfolding context_of
returns c =
    rw (
      sym c.has_sid.ensures ∙ not-false _ c.if-not-has_sid.false-raw,
      c.is_sid.ensures,
      c.is_zero_room-2.ensures,
      c.sid-sid.ensures,
    )
