use Rattle.std.proofs.Common.{is_some}
use mathlib.Core.Path.{◌≡◌, refl, sym, ap, ◌∙◌, subst}
use Prim.Native.Nat.{◌-◌, ◌≤◌}
use native.Mathlib.Omega.{arith}
use borrow.Author.Rules.{rules}
use lib.ListN.{length, drop}
use Rattle.unicode_text.specs.Utf8.{points, is_utf8}
use Rattle.unicode_text.specs.Internal.Point.{PointRead}
use Rattle.unicode_text.proofs.Laws.Point.{end-points, some_more}
use Rattle.unicode_text.proofs.utf8.is_utf8.Goals as goal

pub loop-next-init : goal.loop-next-init
unfolding is_utf8
loop-next-init c = (omega arith, refl)

pub returns-in-End : goal.returns-in-End
returns-in-End c =
    let s = c.args.s.now in
    let l = c.loop-next in
    let p = subst (PointRead s l.at) c.in-End.is c.point_at-here.ensures in
    ap is_some (sym (end-points s l.at p)) ∙ l.invariant.1

pub returns-in-Bad : goal.returns-in-Bad
returns-in-Bad c =
    let s = c.args.s.now in
    let l = c.loop-next in
    let p = subst (PointRead s l.at) c.in-Bad.is c.point_at-here.ensures in
    ap is_some (sym p.0) ∙ l.invariant.1

pub loop-next-smaller : goal.loop-next-smaller
loop-next-smaller c =
    let s = c.args.s.now in
    let l = c.loop-next in
    let p = subst (PointRead s l.at) c.in-Point.is c.point_at-here.ensures in
    omega arith

pub loop-next-preserved : goal.loop-next-preserved
loop-next-preserved c =
    let s = c.args.s.now in
    let l = c.loop-next in
    let p = subst (PointRead s l.at) c.in-Point.is c.point_at-here.ensures in
    (p.1, sym (some_more c.in-Point.point (points (drop c.in-Point.next s))) ∙ ap is_some (sym p.3) ∙ l.invariant.1)
