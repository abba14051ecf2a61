use mathlib.Core.Path.{refl}
use Prim.Native.Nat.{◌*◌, ◌≤◌}
use native.Mathlib.Omega.{arith}
use native.Mathlib.Nat.{mul-le-mul_right}
use Rattle.table_check.proofs.check.weighed.Goals as goal

pub overflow_mul-result : goal.overflow_mul-result
overflow_mul-result c =
    let times = c.args.times in
    let x = c.args.x in
    let m : times * x ≤ 16 * x = mul-le-mul_right x c.requires in
    omega (arith, m)

pub returns : goal.returns
returns c =
    let times = c.args.times in
    let x = c.args.x in
    let m : times * x ≤ 16 * x = mul-le-mul_right x c.requires in
    (refl, omega (arith, m))
