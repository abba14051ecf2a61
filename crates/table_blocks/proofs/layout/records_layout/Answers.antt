use mathlib.Core.Path.{sym, ap, ◌∙◌}
use borrow.Author.Tests.{eq-eqb, ne_eqb}
use Rattle.table.specs.declared.record.RecordFormat.{RecordFormat}
use Rattle.table_layout.specs.Layout.{records_layout}
use Rattle.table_blocks.proofs.layout.records_layout.Goals as goal

pub returns-then-octet-format : goal.returns-then-octet-format
unfolding records_layout
returns-then-octet-format c = rw (ne_eqb _ _ (λ q. c.if-octet-format.true (q ∙ sym (ap (λ (f : RecordFormat). f.kind) c.format_of-format.ensures))))

pub returns : goal.returns
unfolding records_layout
returns c = rw (eq-eqb _ _ (c.if-octet-format.false ∙ ap (λ (f : RecordFormat). f.kind) c.format_of-format.ensures), c.all_records.ensures)
