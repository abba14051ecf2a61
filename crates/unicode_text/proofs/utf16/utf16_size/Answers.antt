use Rattle.std.proofs.Common.{option_map, None, Some}
use borrow.Author.Rules.{rules}
use mathlib.Core.Path.{◌≡◌, sym, ap, ◌∙◌, subst}
use Prim.Native.Nat.{◌*◌, ◌-◌, ◌≤◌}
use native.Mathlib.Omega.{arith}
use lib.ListN.{length, drop}
use Rattle.unicode_text.specs.Utf8.{points}
use Rattle.unicode_text.specs.Utf16.{point_octets, points_octets, utf16}
use Rattle.unicode_text.specs.Internal.Point.{PointRead}
use Rattle.unicode_text.proofs.Laws.Point.{end-points}
use Rattle.unicode_text.proofs.Laws.Writing.{size_left, size-start, size-next, size-end, length-told}
use Rattle.unicode_text.proofs.utf16.utf16_size.Goals as goal

pub loop-point-init : goal.loop-point-init
loop-point-init c = (omega arith, omega arith, size-start point_octets (points c.args.s.now))

pub returns-in-End : goal.returns-in-End
unfolding utf16
returns-in-End c =
    let s = c.args.s.now in
    let l = c.loop-point in
    let p = subst (PointRead s l.at) c.in-End.is c.point_at-here.ensures in
    (sym (length-told (option_map points_octets (points s)) (Some l.size) (sym l.invariant.2 ∙ size-end point_octets l.size (points (drop l.at s)) (end-points s l.at p))), omega arith)

pub returns-in-Bad : goal.returns-in-Bad
unfolding utf16
returns-in-Bad c =
    let s = c.args.s.now in
    let l = c.loop-point in
    let p = subst (PointRead s l.at) c.in-Bad.is c.point_at-here.ensures in
    (sym (length-told (option_map points_octets (points s)) None (sym l.invariant.2 ∙ ap (size_left point_octets l.size) p.0)), omega arith)

pub loop-point-smaller : goal.loop-point-smaller
loop-point-smaller c =
    let s = c.args.s.now in
    let l = c.loop-point in
    let p = subst (PointRead s l.at) c.in-Point.is c.point_at-here.ensures in
    omega arith

pub loop-point-preserved : goal.loop-point-preserved
loop-point-preserved c =
    let s = c.args.s.now in
    let l = c.loop-point in
    let p = subst (PointRead s l.at) c.in-Point.is c.point_at-here.ensures in
    let n = c.in-Point.next in (
      omega arith,
      omega arith,
      size-next point_octets l.size c.point_size-size.result c.in-Point.point (points (drop n s)) (points (drop l.at s)) p.3 c.point_size-size.ensures.0 ∙ l.invariant.2,
    )
