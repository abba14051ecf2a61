use mathlib.Core.Path.{◌≡◌}
use Prim.Native.Nat.{◌+◌, ◌≤◌, min}
use lib.ListN.{length, drop}
use Rattle.filter.specs.Request.{clause_names}
use Rattle.filter_octets.specs.Internal.Size.{contents}
use Rattle.filter_octets.proofs.size.contents_size.Given as goal

abbrev pub invariant-loop-name : goal.invariant-loop-name
invariant-loop-name l =
    (l.name-index ≤ 8) × (l.size ≤ 4096) × (min (l.size + length (contents l.source l.request (drop l.name-index clause_names))) 4096 ≡ min (length (contents l.source l.request clause_names)) 4096)
