use Rattle.octets.proofs.Laws.Number.{u32_octets}
use native.Mathlib.Omega.{arith}
use Rattle.octets.proofs.number.u32_at.Goals as goal

pub returns : goal.returns
returns c =
    let a = c.args in
    omega (arith, u32_octets a.s.now a.at c.requires)
