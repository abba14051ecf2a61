use Prim.Native.Nat.{◌+◌, ◌*◌, ◌≤◌}
use Rattle.mailslot.specs.Internal.Runs.{Running}
use Rattle.mailslot.proofs.text.plain_run.Given as goal

abbrev pub invariant-loop-i : goal.invariant-loop-i
invariant-loop-i l = (l.i ≤ l.units) × Running l.s l.start (l.start + 2 * l.i) l.i
