use Rattle.octets.proofs.Laws.Number.{u16_anywhere}
use native.Mathlib.Omega.{arith}
use Rattle.table.proofs.field.u16_in.Goals as goal

pub returns : goal.returns
returns c = omega (arith, u16_anywhere c.args.s.now c.args.offset)
