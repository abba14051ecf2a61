use mathlib.Core.Path.{◌≡◌, ap, ◌∙◌}
use mathlib.Core.List.{List}
use Prim.Native.Nat.{ℕ, ◌/◌}
use native.Mathlib.Omega.{arith}
use Rattle.std.specs.Int.{to_le_bytes}
use mir.Syntax.{w32}
use Rattle.octets.specs.Buffer.{over}
use Rattle.octets.specs.Number.{little_octets}
use Rattle.lent.proofs.put.put_u32.Goals as goal

four : (n : ℕ) → to_le_bytes w32 n ≡ little_octets 4 n
unfolding little_octets
four n =
    let third : n / 65536 ≡ n / 256 / 256 = omega arith in
    let fourth : n / 16777216 ≡ n / 256 / 256 / 256 = omega arith in
    rw (third, fourth)

pub returns-clause-out_after : goal.returns-clause-out_after
returns-clause-out_after c = c.put_octets.ensures.out_after ∙ ap (λ (x : List ℕ). over x c.args.out.now) (c.to_le_bytes.ensures ∙ four c.args.n)
