use mathlib.Core.Path.{◌≡◌}
use lib.ListN.{drop}
use Rattle.octets.specs.Lists.{all}
use Rattle.table.specs.Format.{format_of, records_in}
use Rattle.table_layout.specs.Layout.{record_layout}
use Rattle.table_blocks.proofs.layout.all_records.Given as goal

abbrev pub invariant-loop-i : goal.invariant-loop-i
invariant-loop-i l = all (record_layout l.kind) (drop l.i (records_in (format_of l.kind) l.b)) ≡ all (record_layout l.kind) (records_in (format_of l.kind) l.b)
