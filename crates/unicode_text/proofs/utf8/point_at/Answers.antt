use mathlib.Core.Path.{refl, sym, subst}
use Prim.Native.Nat.{ℕ, ◌+◌}
use native.Mathlib.Omega.{arith}
use lib.ListN.{get_or}
use Rattle.unicode_text.specs.declared.utf8.PointAt.TheVariants.{Point}
use Rattle.unicode_text.specs.Internal.Point.{PointRead, CodeRead, size_of}
use Rattle.unicode_text.proofs.Laws.Point.{lead-one}
use borrow.Author.Rules.{rules}
use Rattle.unicode_text.proofs.utf8.point_at.Goals as goal
use Rattle.unicode_text.proofs.utf8.point_at.Goals.{After-point_of-point, After-size_of}

-- what was decoded says of the text
read : (c : After-point_of-point) → let a = c.args in CodeRead a.s.now a.at (size_of (get_or a.s.now a.at 0)) c.point_of-point.result
read c =
    let a = c.args in
    c.point_of-point.ensures a.s.now a.at (omega arith, refl, c.octet_at.ensures, λ h. c.octet_at-2.ensures, λ h. c.octet_at-3.ensures)

-- the code point that was decoded, with the offset after it
decoded : (c : After-size_of)
    → (let a = c.args in CodeRead a.s.now a.at (size_of (get_or a.s.now a.at 0)) c.point_of-point.result)
    → let a = c.args in
    PointRead a.s.now a.at (Point c.point_of-point.result (a.at + c.size_of.result))
decoded c r =
    let a = c.args in
    subst (λ (size : ℕ). PointRead a.s.now a.at (Point c.point_of-point.result (a.at + size))) (sym c.size_of.ensures) (r.0 c.if-point-ge-NO_POINT.false)

pub returns-then-lead-lt128 : goal.returns-then-lead-lt128
returns-then-lead-lt128 c =
    let a = c.args in
    lead-one a.s.now a.at c.wide.result (omega arith) c.wide.ensures.0 (rw c.wide.ensures.0 c.if-lead-lt128.true)

pub returns-then-point-ge-NO_POINT : goal.returns-then-point-ge-NO_POINT
returns-then-point-ge-NO_POINT c = (read (goal.at.returns-then-point-ge-NO_POINT c).After-point_of-point).1 c.if-point-ge-NO_POINT.true

pub overflow_add-result-2 : goal.overflow_add-result-2
overflow_add-result-2 c = omega (arith, (decoded (goal.at.overflow_add-result-2 c).After-size_of (read (goal.at.overflow_add-result-2 c).After-point_of-point)).1)

pub returns : goal.returns
returns c = decoded (goal.at.returns c).After-size_of (read (goal.at.returns c).After-point_of-point)
