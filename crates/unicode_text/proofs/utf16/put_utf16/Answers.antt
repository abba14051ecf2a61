use borrow.Author.Rules.{rules}
use mathlib.Core.Path.{◌≡◌, refl, sym, ap, ◌∙◌, subst}
use mathlib.Core.List.{List, [], ◌++◌}
use Prim.Native.Nat.{ℕ, ◌+◌, ◌-◌, ◌≤◌}
use native.Mathlib.Omega.{arith}
use lib.ListN.{length, drop, length-take, length-drop, length-append}
use Rattle.octets.specs.Buffer.{over}
use Rattle.octets.proofs.Laws.Buffer.{over_none, over-length, over_lent}
use Rattle.unicode_text.specs.declared.utf8.PointAt.TheVariants.{Point}
use Rattle.unicode_text.specs.Utf8.{points}
use Rattle.unicode_text.specs.Utf16.{point_octets, utf16}
use Rattle.unicode_text.specs.Internal.Point.{PointRead}
use Rattle.unicode_text.proofs.Laws.Point.{end-points}
use Rattle.unicode_text.proofs.Laws.Writing.{octets_left, left_end, written_all, written_enough, written_next, written_fits}
use Rattle.unicode_text.proofs.utf16.put_utf16.Goals as goal
use Rattle.unicode_text.proofs.utf16.put_utf16.Goals.{After-put_point-arg-1}

-- the code point of a turn, and what is left after it
module _ (c : After-put_point-arg-1) where
  abbrev text : List ℕ
  text = c.args.s.now

  abbrev before-it : List ℕ
  before-it = c.loop-written.invariant.0

  abbrev point : ℕ
  point = c.in-Point.point

  read : PointRead text c.loop-written.at (Point point c.in-Point.next)
  read = subst (PointRead text c.loop-written.at) c.in-Point.is c.point_at-here.ensures

  left : (before-it ++ point_octets point) ++ octets_left point_octets (points (drop c.in-Point.next text)) ≡ utf16 text
  left =
      let l = c.loop-written in
      written_next point_octets before-it (utf16 text) point (points (drop c.in-Point.next text)) (points (drop l.at text)) l.invariant.4 (omega arith) read.3

  fits : length before-it + length (point_octets point) ≤ length (utf16 text)
  fits = written_fits point_octets before-it (utf16 text) point (points (drop c.in-Point.next text)) left

pub loop-written-init : goal.loop-written-init
unfolding utf16
loop-written-init c = let a = c.args in ([], omega arith, refl, refl, refl, sym (over_none a.out.now))

pub returns-in-End : goal.returns-in-End
returns-in-End c =
    let a = c.args in
    let s : List ℕ = a.s.now in
    let l = c.loop-written in
    let p = subst (PointRead s l.at) c.in-End.is c.point_at-here.ensures in
    let e : l.invariant.0 ≡ utf16 s = written_all l.invariant.0 (utf16 s) (octets_left point_octets (points (drop l.at s))) l.invariant.4 (left_end point_octets (points (drop l.at s)) (end-points s l.at p)) in
    record {
      value = l.invariant.3 ∙ ap length e;
      out_after = l.invariant.5 ∙ ap (λ (x : List ℕ). over x a.out.now) e;
    }

pub returns-in-Bad : goal.returns-in-Bad
returns-in-Bad c =
    let a = c.args in
    let s : List ℕ = a.s.now in
    let l = c.loop-written in
    let p = subst (PointRead s l.at) c.in-Bad.is c.point_at-here.ensures in
    let e : l.invariant.0 ≡ utf16 s = written_all l.invariant.0 (utf16 s) (octets_left point_octets (points (drop l.at s))) l.invariant.4 (ap (octets_left point_octets) p.0) in
    record {
      value = l.invariant.3 ∙ ap length e;
      out_after = l.invariant.5 ∙ ap (λ (x : List ℕ). over x a.out.now) e;
    }

pub put_point-written-requires : goal.put_point-written-requires
put_point-written-requires c =
    let l = c.loop-written in
    ((read (goal.at.put_point-written-requires c).After-put_point-arg-1).2, simp (length-take, length-drop) (omega (arith, fits (goal.at.put_point-written-requires c).After-put_point-arg-1)))

pub overflow_add-written : goal.overflow_add-written
overflow_add-written c = omega (arith, fits (goal.at.overflow_add-written c).After-put_point-arg-1)

pub loop-written-smaller : goal.loop-written-smaller
loop-written-smaller c = omega (arith, read (goal.at.loop-written-smaller c).After-put_point-arg-1)

pub loop-written-preserved : goal.loop-written-preserved
loop-written-preserved c =
    let d : List ℕ = c.args.out.now in
    let l = c.loop-written in
    let q = c.put_point-written in
    let w : List ℕ = before-it (goal.at.loop-written-preserved c).After-put_point-arg-1 in
    let x : List ℕ = point_octets (point (goal.at.loop-written-preserved c).After-put_point-arg-1) in
    let b = over_lent w x q.new.out d l.out l.written l.invariant.5 (sym l.invariant.3) q.ensures.out_after in (
      w ++ x,
      (read (goal.at.loop-written-preserved c).After-put_point-arg-1).1,
      ap length b ∙ over-length (w ++ x) d (simp length-append (omega (arith, fits (goal.at.loop-written-preserved c).After-put_point-arg-1))),
      (λ i. l.invariant.3 i + q.ensures.value i) ∙ sym (length-append w x),
      left (goal.at.loop-written-preserved c).After-put_point-arg-1,
      b,
    )

pub returns : goal.returns
returns c =
    let a = c.args in
    let s : List ℕ = a.s.now in
    let l = c.loop-written in
    let e : l.invariant.0 ≡ utf16 s = written_enough l.invariant.0 (utf16 s) (octets_left point_octets (points (drop l.at s))) l.invariant.4 (omega arith) in
    record {
      value = l.invariant.3 ∙ ap length e;
      out_after = l.invariant.5 ∙ ap (λ (x : List ℕ). over x a.out.now) e;
    }
