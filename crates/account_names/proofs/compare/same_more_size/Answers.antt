use mathlib.Core.Path.{◌≡◌, sym, subst, ◌∙◌}
use Prim.Native.Nat.{◌+◌, ◌≤◌}
use native.Mathlib.Omega.{arith}
use lib.ListN.{get_or}
use Rattle.unicode_text.specs.Internal.Point.{size_of}
use Rattle.unicode_text.proofs.Laws.Point.{size_three, size_four}
use Rattle.account_names.specs.Internal.NameOrder.{Alike}
use Rattle.account_names.proofs.Laws.NameOrder.{decoded_alike}
use Rattle.account_names.proofs.compare.same_more_size.Goals as goal
use Rattle.account_names.proofs.compare.same_more_size.Goals.{Else-octet_at-y}

-- both have the character, where its fourth octet, if it has one, is theirs
have : (c : Else-octet_at-y)
    → let a = c.args in
    (0xF0 ≤ a.lead → c.octet_at-z.result ≡ get_or a.b.now (a.j + 3) 0) → Alike a.a.now a.i a.b.now a.j (size_of a.lead)
have c fourth =
    let e = c in
    let a = e.args in
    let code = c.point_of_more in
    let left = code.ensures a.a.now a.i (e.requires.1, e.requires.2, c.octet_at-x.ensures, λ h. c.octet_at-y.ensures, λ h. c.octet_at-z.ensures) in
    let right = code.ensures a.b.now a.j (e.requires.3, e.requires.4, sym c.if-octet_at-x.false ∙ c.octet_at.ensures, λ h. sym c.if-octet_at-y.false ∙ c.octet_at-2.ensures, fourth) in
    decoded_alike a.a.now a.b.now a.i a.j (size_of a.lead) code.result left right c.if-point_of_more-ge-NO_POINT.false

pub returns-then-point_of_more-ge-NO_POINT : goal.returns-then-point_of_more-ge-NO_POINT
returns-then-point_of_more-ge-NO_POINT c = λ h. absurd (omega (arith, h))

pub returns-then-octet_at-x : goal.returns-then-octet_at-x
returns-then-octet_at-x c = λ h. absurd (omega (arith, h))

pub returns-then-octet_at-y : goal.returns-then-octet_at-y
returns-then-octet_at-y c = λ h. absurd (omega (arith, h))

pub returns-then-lead-lt240 : goal.returns-then-lead-lt240
returns-then-lead-lt240 c =
    let e = c in
    subst (Alike e.args.a.now e.args.i e.args.b.now e.args.j) (size_three e.args.lead e.requires.0 c.if-lead-lt240.true) (have (goal.at.returns-then-lead-lt240 c).Else-octet_at-y (λ h. absurd (omega (arith, h, c.if-lead-lt240.true))))

pub returns-then-octet_at-z : goal.returns-then-octet_at-z
returns-then-octet_at-z c = λ h. absurd (omega (arith, h))

pub returns : goal.returns
returns c =
    let e = c in
    subst (Alike e.args.a.now e.args.i e.args.b.now e.args.j) (size_four e.args.lead c.if-lead-lt240.false) (have (goal.at.returns c).Else-octet_at-y (λ h. sym c.if-octet_at-z.false ∙ c.octet_at-3.ensures))
