use mathlib.Core.Path.{ap, ◌∙◌}
use Prim.Native.Nat.{ℕ, ◌/◌, ◌%◌, ◌^◌}
use native.Mathlib.Nat.{one-mul}
use native.Mathlib.Omega.{arith}
use lib.Bits.{bit_or}
use lib.ListN.{get_or, set}
use lib.Pow.{shl_exact}
use Rattle.table_refer.specs.declared.mark.Marks.{Marks}
use Rattle.table_refer.specs.Internal.Mark.{with_mark}
use Rattle.table_refer.proofs.mark.Marks.mark.Goals as goal

pub returns : goal.returns
unfolding with_mark
returns c =
    let octets = c.args.self.now.octets in
    let n = c.args.number.0 in
    let marked : ℕ → Marks = λ y. record { octets = set octets (n / 8) (bit_or (get_or octets (n / 8) 0) y) } in
    ap marked (shl_exact 1 (n % 8) 8 (omega arith) (omega arith) ∙ one-mul (2 ^ (n % 8)))
