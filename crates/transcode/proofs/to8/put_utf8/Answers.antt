use Rattle.std.proofs.Common.{Option, Some, unwrap_or}
use mathlib.Core.Path.{◌≡◌, refl, sym, ap, ◌∙◌, subst}
use mathlib.Core.List.{List, [], ◌++◌}
use Prim.Native.Nat.{ℕ, ◌+◌, ◌≤◌}
use native.Mathlib.Omega.{arith}
use lib.ListN.{length, drop, length-take, length-drop, length-append}
use Rattle.octets.specs.Buffer.{over}
use Rattle.octets.proofs.Laws.Buffer.{over_none, over-length, over_lent}
use Rattle.unicode_text.specs.declared.utf8.PointAt.TheVariants.{Point}
use Rattle.unicode_text.specs.{Utf8.utf8_of, Utf16.points_of16, Utf16.utf8_from16}
use Rattle.transcode.specs.Internal.{Point16.PointRead16, Text8.utf8_text, Text8.SizeTold}
use Rattle.transcode.proofs.Laws.Point16.{end-points}
use Rattle.unicode_text.proofs.Laws.Writing.{octets_left, left_end, written_all, written_enough, written_next, written_fits, length-told}
use Rattle.transcode.proofs.to8.put_utf8.Goals as goal
use Rattle.transcode.proofs.to8.put_utf8.Goals.{After-put_point-arg-1}

-- the code point of a turn, and what is left after it
module _ (c : After-put_point-arg-1) where
  abbrev text : List ℕ
  text = c.args.s.now

  abbrev before-it : List ℕ
  before-it = c.loop-written.invariant.0

  abbrev point : ℕ
  point = c.in-Point.point

  abbrev next : ℕ
  next = c.in-Point.next

  read : PointRead16 text c.loop-written.at (Point point next)
  read = subst (PointRead16 text c.loop-written.at) c.in-Point.is c.point16_at-here.ensures

  left : (before-it ++ utf8_of point) ++ octets_left utf8_of (points_of16 (drop next text)) ≡ utf8_text text
  left =
      let l = c.loop-written in
      written_next utf8_of before-it (utf8_text text) point (points_of16 (drop next text)) (points_of16 (drop l.at text)) l.invariant.4 (omega arith) read.3

  fits : length before-it + length (utf8_of point) ≤ length (utf8_text text)
  fits = written_fits utf8_of before-it (utf8_text text) point (points_of16 (drop next text)) left

pub returns-in_default : goal.returns-in_default
returns-in_default c =
    let a = c.args in
    let e : utf8_text a.s.now ≡ [] = ap (λ (x : Option (List ℕ)). unwrap_or x []) (subst (SizeTold a.s.now) c.in_default.is c.utf8_size.ensures) in
    record {
      value = sym (ap length e);
      out_after = sym (ap (λ (x : List ℕ). over x a.out.now) e ∙ over_none a.out.now);
    }

pub loop-written-init : goal.loop-written-init
unfolding utf8_from16
loop-written-init c =
    let a = c.args in
    let p = subst (SizeTold a.s.now) c.in-Some.is c.utf8_size.ensures in
    ([], omega arith, refl, refl, refl, sym (over_none a.out.now), sym (length-told (utf8_from16 a.s.now) (Some c.in-Some.size) p.0))

pub returns-in-End : goal.returns-in-End
returns-in-End c =
    let a = c.args in
    let s : List ℕ = a.s.now in
    let l = c.loop-written in
    let p = subst (PointRead16 s l.at) c.in-End.is c.point16_at-here.ensures in
    let o = points_of16 (drop l.at s) in
    let e : l.invariant.0 ≡ utf8_text s = written_all l.invariant.0 (utf8_text s) (octets_left utf8_of o) l.invariant.4 (left_end utf8_of o (end-points s l.at p)) in
    record {
      value = l.invariant.3 ∙ ap length e;
      out_after = l.invariant.5 ∙ ap (λ (x : List ℕ). over x a.out.now) e;
    }

pub returns-in-Bad : goal.returns-in-Bad
returns-in-Bad c =
    let a = c.args in
    let s : List ℕ = a.s.now in
    let l = c.loop-written in
    let p = subst (PointRead16 s l.at) c.in-Bad.is c.point16_at-here.ensures in
    let e : l.invariant.0 ≡ utf8_text s = written_all l.invariant.0 (utf8_text s) (octets_left utf8_of (points_of16 (drop l.at s))) l.invariant.4 (ap (octets_left utf8_of) p) in
    record {
      value = l.invariant.3 ∙ ap length e;
      out_after = l.invariant.5 ∙ ap (λ (x : List ℕ). over x a.out.now) e;
    }

pub put_point-written-requires : goal.put_point-written-requires
put_point-written-requires c =
    ((read (goal.at.put_point-written-requires c).After-put_point-arg-1).2, simp (length-take, length-drop) (omega (arith, fits (goal.at.put_point-written-requires c).After-put_point-arg-1)))

pub overflow_add-written : goal.overflow_add-written
overflow_add-written c =
    omega (arith, fits (goal.at.overflow_add-written c).After-put_point-arg-1)

pub loop-written-smaller : goal.loop-written-smaller
loop-written-smaller c =
    omega (arith, read (goal.at.loop-written-smaller c).After-put_point-arg-1)

pub loop-written-preserved : goal.loop-written-preserved
loop-written-preserved c =
    let d : List ℕ = c.args.out.now in
    let l = c.loop-written in
    let q = c.put_point-written in
    let w : List ℕ = before-it (goal.at.loop-written-preserved c).After-put_point-arg-1 in
    let x : List ℕ = utf8_of (point (goal.at.loop-written-preserved c).After-put_point-arg-1) in
    let b = over_lent w x q.new.out d l.out l.written l.invariant.5 (sym l.invariant.3) q.ensures.out_after in (
      w ++ x,
      (read (goal.at.loop-written-preserved c).After-put_point-arg-1).1,
      ap length b ∙ over-length (w ++ x) d (simp length-append (omega (arith, fits (goal.at.loop-written-preserved c).After-put_point-arg-1))),
      (λ i. l.invariant.3 i + q.ensures.value i) ∙ sym (length-append w x),
      left (goal.at.loop-written-preserved c).After-put_point-arg-1,
      b,
      l.invariant.6,
    )

pub returns : goal.returns
returns c =
    let a = c.args in
    let s : List ℕ = a.s.now in
    let l = c.loop-written in
    let e : l.invariant.0 ≡ utf8_text s = written_enough l.invariant.0 (utf8_text s) (octets_left utf8_of (points_of16 (drop l.at s))) l.invariant.4 (omega arith) in
    record {
      value = l.invariant.3 ∙ ap length e;
      out_after = l.invariant.5 ∙ ap (λ (x : List ℕ). over x a.out.now) e;
    }
