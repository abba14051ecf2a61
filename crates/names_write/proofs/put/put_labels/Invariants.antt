use mathlib.Core.Path.{◌≡◌}
use lib.ListN.{length, take}
use Rattle.octets.specs.Buffer.{over}
use Rattle.names.specs.Internal.Plan.{literal_octets}
use Rattle.names_write.proofs.put.put_labels.Given as goal

abbrev pub invariant-loop-i : goal.invariant-loop-i
invariant-loop-i l = l.out ≡ over (take l.i (literal_octets l.text)) l.initial.out
