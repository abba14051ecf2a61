use Rattle.std.proofs.Common.{◌≡◌, Bool, List, ℕ, drop}
use Rattle.octets.specs.Lists.{cut, first}
use Rattle.table.specs.Block.{body_size}
use Rattle.table.specs.Format.{format_of, records_in}
use Rattle.table_find.specs.Internal.Search.{TestsAs, passes, first_in_body}
use Rattle.table_search.proofs.search.first_in_body.Given as goal

abbrev pub invariant-loop-i : goal.invariant-loop-i
invariant-loop-i g l =
    (t : List ℕ → Bool) → TestsAs g.F.Fn l.test t
    → first (passes t) (drop l.i (records_in (format_of l.fn.kind) (cut l.image l.body body_size))) ≡ first_in_body l.fn.kind t (cut l.image l.body body_size)
