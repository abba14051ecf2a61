use Rattle.std.proofs.Common.{◌≡◌, length, take}
use Rattle.octets.specs.Buffer.{over}
use Rattle.names.specs.Internal.Plan.{names_octets}
use Rattle.names_write.proofs.put.put_names.Given as goal

abbrev pub invariant-loop-name : goal.invariant-loop-name
invariant-loop-name l =
    let written = names_octets l.lent.table.now l.lent.request.now (take l.name-index l.names) in
    (length l.out ≡ length l.initial.out) × (l.at ≡ length written) × (l.out ≡ over written l.initial.out)
