use mathlib.Core.Path.{◌≡◌}
use Prim.Native.Nat.{◌+◌, ◌-◌, ◌*◌, ◌≤◌}
use lib.ListN.{length, drop}
use Rattle.table_check.specs.Step as specs
use Rattle.table_check.proofs.check.sums_of.Given as goal

abbrev pub invariant-loop-x : goal.invariant-loop-x
invariant-loop-x l =
    let i = l.x-index in
    (l.left ≡ length l.octets - i) × (l.sum ≤ i * 255) × (l.counted ≤ i * 4080) × (l.sum + specs.sum (drop i l.octets) ≡ specs.sum l.octets)
    × (l.counted + specs.counted (drop i l.octets) ≡ specs.counted l.octets)
