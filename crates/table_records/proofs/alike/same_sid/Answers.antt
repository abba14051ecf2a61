use Rattle.std.proofs.Common.{sym, ap₂, ◌∙◌}
use Rattle.octets.specs.Text.{same}
use Rattle.table.specs.Context.{context_of}
use Rattle.table_records.proofs.alike.same_sid.Goals as goal

pub returns-then-not-has_sid : goal.returns-then-not-has_sid
unfolding context_of
returns-then-not-has_sid c = rw (sym c.has_sid.ensures ∙ c.if-not-has_sid.true)

pub returns-then-not-has_sid-2 : goal.returns-then-not-has_sid-2
unfolding context_of
returns-then-not-has_sid-2 c = rw (sym c.has_sid.ensures ∙ c.if-not-has_sid.false, sym c.has_sid-2.ensures ∙ c.if-not-has_sid-2.true)

pub returns : goal.returns
unfolding context_of
returns c =
    rw (sym c.has_sid.ensures ∙ c.if-not-has_sid.false, sym c.has_sid-2.ensures ∙ c.if-not-has_sid-2.false)
    (c.same_octets.ensures ∙ ap₂ same c.sid.ensures c.sid-2.ensures)
