use mathlib.Core.Path.{ap}
use Prim.Native.Nat.{ℕ, ◌+◌}
use Rattle.octets.specs.Number.{little_octets}
use Rattle.octets.proofs.Laws.Buffer.{lent_back}
use Rattle.lent.specs.Internal.OverAt.{over_at}
use Rattle.lent.proofs.put.put_u32_at.Goals as goal

pub returns : goal.returns
unfolding over_at
returns c =
    let a = c.args in
    let w = c.put_u32 in
    record {
      value = ap (λ (k : ℕ). a.at + k) w.ensures.value;
      out_after = lent_back (little_octets 4 a.n) w.new.out a.out.now a.at w.ensures.out_after;
    }
