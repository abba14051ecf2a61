use Rattle.octets.proofs.Laws.Number.{big-two}
use native.Mathlib.Omega.{arith}
use Rattle.octets.proofs.number.big_u16_at.Goals as goal

pub returns : goal.returns
returns c =
    let a = c.args in
    omega (arith, big-two a.s.now a.at c.requires)
