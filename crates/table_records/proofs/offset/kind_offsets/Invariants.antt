use Rattle.std.proofs.Common.{◌≡◌, ◌*◌, ◌≤◌, ◌++◌, take, drop}
use Rattle.table.specs.Block.{blocks_of}
use Rattle.table_records.specs.Internal.Offset.{records_at, used_of}
use Rattle.table_records.proofs.offset.kind_offsets.Given as goal

-- the records so far, and those of the blocks that are left
abbrev pub invariant-loop-place : goal.invariant-loop-place
invariant-loop-place l =
    record {
      few : l.count ≤ l.format.count * l.place;
      all : records_at l.image l.format.width (take l.count l.out) ++ used_of l.format (drop l.place (blocks_of l.image)) ≡ used_of l.format (blocks_of l.image);
    }
