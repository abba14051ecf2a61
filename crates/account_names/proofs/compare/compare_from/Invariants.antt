use Prim.Native.Nat.{◌-◌}
use lib.ListN.{length}
use Rattle.account_names.specs.Internal.NameOrder.{GoesOn}
use Rattle.account_names.proofs.compare.compare_from.Given as goal

abbrev pub invariant-loop-i : goal.invariant-loop-i
invariant-loop-i l = GoesOn l.a l.start l.i l.b l.start l.j

abbrev pub decreases-loop-i : goal.decreases-loop-i
decreases-loop-i l = length l.a - l.i
