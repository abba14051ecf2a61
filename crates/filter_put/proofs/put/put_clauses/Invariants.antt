use mathlib.Core.Path.{◌≡◌}
use mathlib.Core.List.{List, ◌++◌}
use Prim.Native.Nat.{ℕ, ◌≤◌}
use lib.ListN.{length, drop}
use Rattle.octets.specs.Buffer.{over}
use Rattle.filter.specs.Request.{clause_names}
use Rattle.filter_octets.specs.Internal.Size.{contents}
use Rattle.filter_put.proofs.put.put_clauses.Given as goal

abbrev pub invariant-loop-name : goal.invariant-loop-name
invariant-loop-name l =
    (w : List ℕ) × (l.name-index ≤ 8) × (length l.out ≡ length l.initial.out) × (l.at ≡ length w) × (w ++ contents l.source l.request (drop l.name-index clause_names) ≡ contents l.source l.request clause_names) × (l.out ≡ over w l.initial.out)
