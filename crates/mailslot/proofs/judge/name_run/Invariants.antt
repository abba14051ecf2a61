use mathlib.Core.Path.{◌≡◌}
use mathlib.Core.Bool.{true}
use Prim.Native.Nat.{◌-◌, ◌≤◌}
use lib.ListN.{length}
use Rattle.octets.specs.Lists.{all, cut}
use Rattle.mailslot.specs.Internal.Runs.{of_name}
use Rattle.mailslot.proofs.judge.name_run.Given as goal

abbrev pub invariant-loop-at : goal.invariant-loop-at
invariant-loop-at l = (l.start ≤ l.at) × (l.at ≤ length l.s) × (all of_name (cut l.s l.start (l.at - l.start)) ≡ true)
