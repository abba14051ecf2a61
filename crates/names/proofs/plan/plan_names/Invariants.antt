use Rattle.std.proofs.Common.{◌≡◌, ◌+◌, ◌*◌, ◌≤◌, length, take, map, []}
use Rattle.lent.specs.Internal.Stretch.{octets_at}
use Rattle.names.specs.Name.{write_names}
use Rattle.names.specs.Internal.Plan.{AllFit, names_octets, writings_of}
use Rattle.names.proofs.plan.plan_names.Given as goal

abbrev pub invariant-loop-i : goal.invariant-loop-i
invariant-loop-i l =
    let table = l.lent.table.now in
    let request = l.lent.request.now in
    (length l.names ≡ 9) × AllFit table request (take l.i l.names)
    × (write_names [] l.offset (map (octets_at table request) (take l.i l.texts)) ≡ writings_of table request (take l.i l.names))
    × (l.end ≡ l.offset + length (names_octets table request (take l.i l.names))) × (l.end ≤ l.offset + 257 * l.i)
