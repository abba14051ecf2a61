use mathlib.Core.Path.{refl, ◌∙◌}
use Prim.Native.Nat.{◌+◌, ◌≤◌}
use native.Mathlib.Omega.{arith}
use Rattle.account_names.specs.Internal.NameOrder.{GoesOn}
use Rattle.account_names.proofs.compare.plain_start.Goals as goal
use Rattle.account_names.proofs.compare.plain_start.Goals.{Else-size-eq0}

-- what is alike is passed over
passed : (c : Else-size-eq0)
    → let p = c.args in
    let at = c.loop-at.at in
    let n = c.plain_size-size.result in
    (1 ≤ n) × GoesOn p.a.now at (at + n) p.b.now at (at + n)
passed c = let some : 1 ≤ c.plain_size-size.result = omega (arith, c.if-size-eq0.false) in (some, c.plain_size-size.ensures some)

pub loop-at-init : goal.loop-at-init
loop-at-init c = (omega arith, omega arith, refl)

pub returns-then-size-eq0 : goal.returns-then-size-eq0
returns-then-size-eq0 c = c.loop-at.invariant

pub overflow_add-at : goal.overflow_add-at
overflow_add-at c = omega (arith, (passed (goal.at.overflow_add-at c).Else-size-eq0).1.0)

pub loop-at-smaller : goal.loop-at-smaller
loop-at-smaller c = omega (arith, (passed (goal.at.loop-at-smaller c).Else-size-eq0).0, (passed (goal.at.loop-at-smaller c).Else-size-eq0).1.0)

pub loop-at-preserved : goal.loop-at-preserved
loop-at-preserved c = let h = (passed (goal.at.loop-at-preserved c).Else-size-eq0).1 in (h.0, h.1, h.2 ∙ c.loop-at.invariant.2)
