use mathlib.Core.Path.{◌≡◌}
use Prim.Native.Nat.{◌+◌, ◌-◌, ◌≤◌}
use lib.ListN.{length}
use Rattle.octets.specs.Label.{labels}
use Rattle.names.specs.Internal.Plan.{tails_from, first_aim}
use Rattle.names.proofs.Laws.Plan.Search.{search_from}
use Rattle.names.proofs.plan.aim_in.Given as goal

abbrev pub invariant-loop-before : goal.invariant-loop-before
invariant-loop-before l = (l.before ≤ length l.text + 1) × (search_from (tails_from l.offset l.literal (labels l.earlier)) l.text l.before ≡ first_aim (tails_from l.offset l.literal (labels l.earlier)) (labels l.text))

abbrev pub decreases-loop-before : goal.decreases-loop-before
decreases-loop-before l = length l.text + 1 - l.before
