use mathlib.Core.Path.{ap}
use Prim.Native.Nat.{ℕ, ◌+◌}
use Rattle.octets.proofs.Laws.Buffer.{lent_back}
use Rattle.lent.specs.Internal.OverAt.{over_at}
use Rattle.names.specs.Internal.Plan.{name_octets}
use Rattle.reply.proofs.fields.put_name_at.Goals as goal

pub returns : goal.returns
unfolding over_at
returns c =
    let a = c.args in
    let w = c.put_name in
    record {
      value = ap (λ (k : ℕ). a.at + k) w.ensures.value;
      out_after = lent_back (name_octets a.lent.table.now a.lent.request.now a.name.now) w.new.out a.out.now a.at w.ensures.out_after;
    }
