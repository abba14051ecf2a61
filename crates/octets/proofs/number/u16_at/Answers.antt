use Rattle.octets.proofs.Laws.Number.{u16-octets}
use native.Mathlib.Omega.{arith}
use Rattle.octets.proofs.number.u16_at.Goals as goal

pub returns : goal.returns
returns c =
    let a = c.args in
    omega (arith, u16-octets a.s.now a.at c.requires)
