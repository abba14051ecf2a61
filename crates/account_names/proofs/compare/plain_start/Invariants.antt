use Prim.Native.Nat.{◌-◌}
use lib.ListN.{length}
use Rattle.account_names.specs.Internal.NameOrder.{GoesOn}
use Rattle.account_names.proofs.compare.plain_start.Given as goal

abbrev pub invariant-loop-at : goal.invariant-loop-at
invariant-loop-at l = GoesOn l.a 0 l.at l.b 0 l.at

abbrev pub decreases-loop-at : goal.decreases-loop-at
decreases-loop-at l = length l.a - l.at
