use Prim.Native.Nat.{ℕ, ◌+◌, ◌*◌, ◌%◌, ◌≤◌}
use native.Mathlib.Omega.{arith}
use native.Mathlib.Nat.{mul-le-mul_right}
use lib.ListN.{length}
use Rattle.table_check.specs.Step as specs
use Rattle.table_check.proofs.check.step.Goals as goal

pub overflow_mul-result : goal.overflow_mul-result
overflow_mul-result c =
    let e = c in
    let m : length e.args.octets.now * e.args.check.a ≤ 16 * e.args.check.a = mul-le-mul_right e.args.check.a e.requires.2 in
    omega (arith, m)

pub overflow_add-result-2 : goal.overflow_add-result-2
overflow_add-result-2 c =
    let e = c in
    let m : length e.args.octets.now * e.args.check.a ≤ 16 * e.args.check.a = mul-le-mul_right e.args.check.a e.requires.2 in
    omega (arith, m)

pub overflow_add-result-3 : goal.overflow_add-result-3
overflow_add-result-3 c =
    let e = c in
    let m : length e.args.octets.now * e.args.check.a ≤ 16 * e.args.check.a = mul-le-mul_right e.args.check.a e.requires.2 in
    omega (arith, m)

pub returns : goal.returns
unfolding specs.step
returns c =
    let a = c.args in
    let n : ℕ = length a.octets.now in
    let e = c.sums_of-sums.ensures in
    λ j. record { a = (a.check.a + e.0 j) % 65536; b = (a.check.b + n * a.check.a + e.1 j) % 65536 }
