use mathlib.Core.Path.{sym, ap, ◌∙◌, subst}
use Rattle.octets.proofs.Laws.Option.{mapped_none}
use native.Mathlib.Omega.{arith}
use lib.ListN.{length, drop}
use Rattle.unicode_text.specs.{Utf8.utf8_of, Utf16.points_of16, Utf16.utf8_from16}
use Rattle.transcode.specs.Internal.Point16.{PointRead16}
use Rattle.transcode.proofs.Laws.Point16.{end-points}
use Rattle.transcode.proofs.Laws.Length.{three_a_unit}
use Rattle.unicode_text.proofs.Laws.Writing.{size_left, size-start, size-next, size-end}
use Rattle.transcode.proofs.to8.utf8_size.Goals as goal

pub loop-point-init : goal.loop-point-init
unfolding utf8_from16
loop-point-init c = (omega arith, omega arith, size-start utf8_of (points_of16 c.args.s.now))

pub returns-in-End : goal.returns-in-End
returns-in-End c =
    let s = c.args.s.now in
    let l = c.loop-point in
    let p = subst (PointRead16 s l.at) c.in-End.is c.point16_at-here.ensures in
    (sym l.invariant.2 ∙ size-end utf8_of l.size (points_of16 (drop l.at s)) (end-points s l.at p), omega arith)

pub returns-in-Bad : goal.returns-in-Bad
returns-in-Bad c =
    let s = c.args.s.now in
    let l = c.loop-point in
    let p = subst (PointRead16 s l.at) c.in-Bad.is c.point16_at-here.ensures in
    mapped_none length (utf8_from16 s) (sym l.invariant.2 ∙ ap (size_left utf8_of l.size) p)

pub loop-point-smaller : goal.loop-point-smaller
loop-point-smaller c =
    let s = c.args.s.now in
    let l = c.loop-point in
    let p = subst (PointRead16 s l.at) c.in-Point.is c.point16_at-here.ensures in
    omega arith

pub loop-point-preserved : goal.loop-point-preserved
loop-point-preserved c =
    let s = c.args.s.now in
    let l = c.loop-point in
    let p = subst (PointRead16 s l.at) c.in-Point.is c.point16_at-here.ensures in
    let n = c.in-Point.next in (
      omega arith,
      omega (arith, three_a_unit c.in-Point.point),
      size-next utf8_of l.size c.width-size.result c.in-Point.point (points_of16 (drop n s)) (points_of16 (drop l.at s)) p.3 c.width-size.ensures.0 ∙ l.invariant.2,
    )
