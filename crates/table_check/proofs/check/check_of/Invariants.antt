use mathlib.Core.Path.{◌≡◌}
use Prim.Native.Nat.{◌<◌}
use lib.ListN.{length}
use Rattle.table_check.specs.Check.{grown, check_of_lem}
use Rattle.table_check.proofs.check.check_of.Given as goal

abbrev pub invariant-loop-front : goal.invariant-loop-front
invariant-loop-front l = (l.check.a < 65536) × (l.check.b < 65536) × (grown l.check l.left ≡ check_of_lem l.octets)

abbrev pub decreases-loop-front : goal.decreases-loop-front
decreases-loop-front l = length l.left
