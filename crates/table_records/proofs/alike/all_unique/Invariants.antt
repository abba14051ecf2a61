use Rattle.std.proofs.Common.{◌≡◌, drop}
use Rattle.octets.specs.Lists.{unique}
use Rattle.table_records.proofs.alike.all_unique.Given as goal

abbrev pub invariant-loop-i : goal.invariant-loop-i
invariant-loop-i g l = let alike = g.R.Alike.alike l.records in unique alike (drop l.i l.offsets) ≡ unique alike l.offsets
