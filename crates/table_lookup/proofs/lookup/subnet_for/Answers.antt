use Rattle.std.proofs.Common.{None}
use Prim.Native.Nat.{ℕ}
use mathlib.Core.Path.{ap, ◌∙◌}
use Rattle.table.specs.Block.{blocks_of}
use Rattle.table_find.specs.Internal.Nearest.{nearest_in}
use Rattle.table_lookup.proofs.Laws.Nearest.{subnet_found}
use Rattle.table_lookup.proofs.lookup.subnet_for.Goals as goal

pub returns : goal.returns
returns c =
    let a = c.args in
    let found = c.nearest_subnet.ensures.result_value ∙ ap (λ (n : ℕ). nearest_in n None (blocks_of a.image.now)) c.caller_number.ensures in
    record {
      result_value = found ∙ subnet_found a.caller (blocks_of a.image.now);
      lies_in = c.nearest_subnet.ensures.lies_in;
    }
