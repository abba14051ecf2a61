use native.Mathlib.Omega.{arith}
use Rattle.table.proofs.Laws.Field.{u32_anywhere}
use Rattle.table.proofs.field.u32_in.Goals as goal

pub returns : goal.returns
returns c = omega (arith, u32_anywhere c.args.s.now c.args.offset)
