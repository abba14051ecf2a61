use mathlib.Core.Path.{refl, sym, ◌∙◌}
use native.Mathlib.Omega.{arith}
use borrow.Author.Tests.{eqb-true}
use Rattle.unicode_text.proofs.Laws.Point.{stand_two}
use Rattle.account_names.proofs.Laws.NameOrder.{points_alike, letters_alike}
use Rattle.account_names.proofs.compare.alike_size.Goals as goal

pub returns-then-a-i : goal.returns-then-a-i
returns-then-a-i c = λ h. absurd (omega (arith, h))

pub returns-then-b-j : goal.returns-then-b-j
returns-then-b-j c = λ h. absurd (omega (arith, h))

pub returns-then-letters_alike : goal.returns-then-letters_alike
returns-then-letters_alike c =
    let p = c.args in
    let below = c.are_below.ensures.0 c.if-are_below.true in
    letters_alike p.a.now p.b.now p.i p.j (omega arith, below.0) (omega arith, below.1) (eqb-true _ _ (sym c.letters_alike.ensures ∙ c.if-letters_alike.true))

pub returns-then-are_below : goal.returns-then-are_below
returns-then-are_below c = λ h. absurd (omega (arith, h))

pub point_of_two-requires : goal.point_of_two-requires
point_of_two-requires c = (c.are_below-2.ensures.0 c.if-are_below-2.true).0

pub point_of_two-requires-then-are_below-2 : goal.point_of_two-requires-then-are_below-2
point_of_two-requires-then-are_below-2 c = (c.are_below-2.ensures.0 c.if-are_below-2.true).1

pub returns-then-points_alike : goal.returns-then-points_alike
returns-then-points_alike c =
    let p = c.args in
    let below = c.are_below-2.ensures.0 c.if-are_below-2.true in
    let alike = c.points_alike.ensures c.if-points_alike.true in
    let x = c.point_of_two.ensures in
    let y = c.point_of_two-then-are_below-2.ensures in
    points_alike p.a.now p.b.now p.i p.j 2 _ _
    ((x.code_of (x.le_lead alike.0) p.a.now p.i (stand_two p.a.now p.i _ _ (omega arith) refl c.octet_at.ensures below.0)).0 alike.0)
    ((y.code_of (y.le_lead alike.1) p.b.now p.j (stand_two p.b.now p.j _ _ (omega arith) refl c.octet_at-then-are_below-2.ensures below.1)).0 alike.1)
    alike.2

pub returns-then-are_below-2 : goal.returns-then-are_below-2
returns-then-are_below-2 c = λ h. absurd (omega (arith, h))

pub returns-then-x-y : goal.returns-then-x-y
returns-then-x-y c = λ h. absurd (omega (arith, h))

pub same_more_size-requires : goal.same_more_size-requires
same_more_size-requires c = (c.are_below-2.ensures.1 c.if-are_below-2.false c.if-x-y.false, omega arith, refl, omega arith, c.if-x-y.false)
