use Rattle.std.proofs.Common.{◌≡◌, ◌≤◌, ℕ, ◌+◌, ◌-◌, ◌*◌}
use Rattle.filter_position.specs.Filter.{siblings, and_of}
use Rattle.filter_gather.specs.Internal.Gather.{gathered_from}
use Rattle.filter_gather.proofs.gather.+and_of_one_of.Given as goal

abbrev pub decreases-and_of : goal.decreases-and_of
decreases-and_of l = 2 * l.depth

abbrev pub decreases-one_of : goal.decreases-one_of
decreases-one_of l = 2 * l.depth + 1

abbrev pub invariant-and_of-loop-read : goal.invariant-and_of-loop-read
invariant-and_of-loop-read l =
    (k : ℕ) × (l.position.at ≤ l.position.end) × (l.position.end ≡ l.initial.position.end) × (l.position.end - l.position.at ≤ k) × (gathered_from l.s l.seen (siblings (and_of (l.depth - 1)) k l.s l.position.at l.position.end) ≡ gathered_from l.s l.initial.seen (and_of l.depth l.s l.initial.position.at l.initial.position.end))

abbrev pub decreases-and_of-loop-read : goal.decreases-and_of-loop-read
decreases-and_of-loop-read l = l.position.end - l.position.at
