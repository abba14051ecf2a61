use mathlib.Core.Path.{◌≡◌}
use lib.ListN.{length}
use Rattle.table_refer.specs.Internal.Mark.{Seen}
use Rattle.table_refer.proofs.mark.mark_sites.Given as goal

abbrev pub invariant-loop-i : goal.invariant-loop-i
invariant-loop-i l = (length l.marks.octets ≡ 8192) × Seen l.marks l.image l.sites l.i
