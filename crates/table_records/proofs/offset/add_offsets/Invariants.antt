use Rattle.std.proofs.Common.{◌≡◌, ◌+◌, ◌-◌, ◌*◌, ◌≤◌, ◌++◌, take}
use Rattle.table_records.specs.Internal.Offset.{offsets_from}
use Rattle.table_records.proofs.offset.add_offsets.Given as goal

-- the offsets so far, and those that are left
abbrev pub invariant-loop-i : goal.invariant-loop-i
invariant-loop-i l =
    let w = l.format.width in
    record {
      few : l.count ≤ l.k + l.i;
      all : take l.count l.out ++ offsets_from l.image w (l.from + w * l.i) (l.format.count - l.i) ≡ take l.k l.initial.out ++ offsets_from l.image w l.from l.format.count;
    }
