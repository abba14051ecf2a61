use mathlib.Core.Path.{ap, ◌∙◌}
use mathlib.Core.List.{List}
use Prim.Native.Nat.{ℕ}
use Rattle.octets.specs.Buffer.{over}
use Rattle.octets.specs.Number.{little_octets}
use Rattle.lent.proofs.put.put_u16.Goals as goal

pub returns-clause-out_after : goal.returns-clause-out_after
unfolding little_octets
returns-clause-out_after c = c.put_octets.ensures.out_after ∙ ap (λ (x : List ℕ). over x c.args.out.now) c.to_le_bytes.ensures
