use mathlib.Core.Path.{◌≡◌, ap, ◌∙◌}
use Prim.Native.Nat.{ℕ, ◌-◌, ◌*◌, ◌≤◌, ◌<◌}
use native.Mathlib.Omega.{arith}
use lib.ListN.{length, get_or}
use Rattle.table_check.proofs.Laws.Step.{sum-next, counted_next, sum-end, counted-end}
use Rattle.table_check.proofs.check.sums_of.Goals as goal

pub loop-x-preserved : goal.loop-x-preserved
loop-x-preserved c =
    let l = c.loop-x in
    let i = l.x-index in
    let s = c.args.octets.now in
    let h : i < length s = omega arith in
    let x : get_or s i 0 ≤ 255 = omega arith in
    let w : c.weighed-counted.result ≡ (length s - i) * get_or s i 0 = c.weighed-counted.ensures.0 ∙ ap (λ (n : ℕ). n * get_or s i 0) l.invariant.0 in (
      omega (arith, l.invariant.0),
      omega (arith, x, l.invariant.1),
      omega (arith, c.weighed-counted.ensures.1, l.invariant.2),
      omega (arith, l.invariant.3, sum-next s i h),
      omega (arith, l.invariant.4, counted_next s i h, w),
    )

pub returns : goal.returns
returns c =
    let l = c.loop-x in
    let s = c.args.octets.now in
    let h : length s ≤ l.x-index = omega arith in
    (omega (arith, l.invariant.3, sum-end s l.x-index h), omega (arith, l.invariant.4, counted-end s l.x-index h))
