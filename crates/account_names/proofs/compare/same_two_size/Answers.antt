use mathlib.Core.Path.{refl, sym, ◌∙◌}
use Prim.Native.Nat.{◌<◌}
use native.Mathlib.Omega.{arith}
use lib.ListN.{get_or}
use Rattle.unicode_text.proofs.Laws.Point.{stand_two}
use Rattle.account_names.proofs.Laws.NameOrder.{decoded_alike}
use Rattle.account_names.proofs.compare.same_two_size.Goals as goal

pub returns-then-lead-ge224 : goal.returns-then-lead-ge224
returns-then-lead-ge224 c = λ h. absurd (omega (arith, h))

pub returns-then-point_of_two-ge-NO_POINT : goal.returns-then-point_of_two-ge-NO_POINT
returns-then-point_of_two-ge-NO_POINT c = λ h. absurd (omega (arith, h))

pub returns-then-b-at : goal.returns-then-b-at
returns-then-b-at c = λ h. absurd (omega (arith, h))

pub returns-then-octet_at-second : goal.returns-then-octet_at-second
returns-then-octet_at-second c = λ h. absurd (omega (arith, h))

pub returns : goal.returns
returns c =
    let e = c in
    let a = e.args in
    let code = c.point_of_two in
    let good = c.if-point_of_two-ge-NO_POINT.false in
    let read = code.ensures.code_of (code.ensures.le_lead good) in
    let short : get_or a.a.now a.at 0 < 0xE0 = omega (arith, c.if-lead-ge224.false) in
    decoded_alike a.a.now a.b.now a.at a.at 2 code.result
    (read a.a.now a.at (stand_two a.a.now a.at _ _ e.requires.0 refl c.octet_at-second.ensures short))
    (read a.b.now a.at (stand_two a.b.now a.at _ _ e.requires.1 (sym c.if-b-at.false) (sym c.if-octet_at-second.false ∙ c.octet_at.ensures) short))
    good
