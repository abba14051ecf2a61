use mathlib.Core.Path.{ap, ◌∙◌}
use mathlib.Core.List.{List}
use Prim.Native.Nat.{ℕ, ◌+◌}
use native.Mathlib.Omega.{arith}
use lib.ListN.{length}
use Rattle.lent.specs.Internal.OverAt.{over_at}
use Rattle.reply.proofs.fields.put_stretch_at.Goals as goal

pub put_octets_at-requires : goal.put_octets_at-requires
put_octets_at-requires c = omega (arith, ap length c.text.ensures)

pub returns : goal.returns
returns c =
    let a = c.args in
    let e = c.text.ensures in
    let w = c.put_octets_at in
    record {
      value = w.ensures.value ∙ ap (λ (x : List ℕ). a.at + length x) e;
      out_after = w.ensures.out_after ∙ ap (λ (x : List ℕ). over_at a.at x a.out.now) e;
    }
