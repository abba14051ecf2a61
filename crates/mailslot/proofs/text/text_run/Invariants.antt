use mathlib.Core.Path.{sym, subst}
use Prim.Native.Nat.{◌-◌}
use native.Mathlib.Omega.{arith}
use lib.ListN.{length}
use borrow.Author.Rules.{rules}
use Rattle.mailslot.specs.Internal.Runs.{Character, octets_for, Running}
use Rattle.mailslot.proofs.Laws.Run.{run_goes, run_stops, short_stops, full_stops}
use Rattle.mailslot.proofs.text.text_run.Given as goal

abbrev pub invariant-loop-at : goal.invariant-loop-at
invariant-loop-at l = Running l.s l.start l.at l.size

abbrev pub decreases-loop-at : goal.decreases-loop-at
decreases-loop-at l = length l.s - l.at
