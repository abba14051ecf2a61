use lib.Dec.{eqb}
use Prim.Native.Nat.{◌+◌}
use native.Mathlib.Omega.{arith}
use Rattle.unicode_text.proofs.Laws.Point.{some-low, six-at, four_bad, four_cut, four_end, four_point, coded_bad, coded_point}
use borrow.Author.Rules.{rules}
use Rattle.unicode_text.proofs.utf8.point_of_four.Goals as goal

pub returns-then-x-gt63 : goal.returns-then-x-gt63
returns-then-x-gt63 c =
    let e = c in
    let low = c.second_bound-low.ensures in
    let x = c.six_bits-x in
    λ s at p. coded_bad s at 4 (four_bad s at _ x.result 0 _ _ (p.0, p.1, e.requires.0, e.requires.1) low c.second_bound-high.ensures (six-at s (at + 1) _ _ _ _ p.2 (some-low (eqb e.args.lead 0xF0) _ 0x90 (omega arith) low) x.ensures) c.if-x-gt63.true)

pub returns-then-y-gt63 : goal.returns-then-y-gt63
returns-then-y-gt63 c =
    let e = c in
    let low = c.second_bound-low.ensures in
    let x = c.six_bits-x in
    let y = c.six_bits-y in
    λ s at p.
    coded_bad s at 4
    (four_cut s at _ x.result y.result _ _ (p.0, p.1, e.requires.0, e.requires.1) low c.second_bound-high.ensures (six-at s (at + 1) _ _ _ _ p.2 (some-low (eqb e.args.lead 0xF0) _ 0x90 (omega arith) low) x.ensures) c.if-x-gt63.false
    (six-at s (at + 2) _ _ _ _ (p.3 (omega (arith, e.requires.0))) (omega arith) y.ensures)
    c.if-y-gt63.true)

pub returns-then-z-gt63 : goal.returns-then-z-gt63
returns-then-z-gt63 c =
    let e = c in
    let low = c.second_bound-low.ensures in
    let x = c.six_bits-x in
    let y = c.six_bits-y in
    let z = c.six_bits-z in
    λ s at p.
    coded_bad s at 4
    (four_end s at _ x.result y.result _ _ (p.0, p.1, e.requires.0, e.requires.1) low c.second_bound-high.ensures (six-at s (at + 1) _ _ _ _ p.2 (some-low (eqb e.args.lead 0xF0) _ 0x90 (omega arith) low) x.ensures) c.if-x-gt63.false
    (six-at s (at + 2) _ _ _ _ (p.3 (omega (arith, e.requires.0))) (omega arith) y.ensures)
    z.result
    c.if-y-gt63.false
    (six-at s (at + 3) _ _ _ _ (p.4 e.requires.0) (omega arith) z.ensures)
    c.if-z-gt63.true)

pub returns : goal.returns
returns c =
    let e = c in
    let low = c.second_bound-low.ensures in
    let x = c.six_bits-x in
    let y = c.six_bits-y in
    let z = c.six_bits-z in
    λ s at p.
    coded_point s at 4 _
    (four_point s at _ x.result y.result _ _ (p.0, p.1, e.requires.0, e.requires.1) low c.second_bound-high.ensures (six-at s (at + 1) _ _ _ _ p.2 (some-low (eqb e.args.lead 0xF0) _ 0x90 (omega arith) low) x.ensures) c.if-x-gt63.false
    (six-at s (at + 2) _ _ _ _ (p.3 (omega (arith, e.requires.0))) (omega arith) y.ensures)
    z.result
    c.if-y-gt63.false
    (six-at s (at + 3) _ _ _ _ (p.4 e.requires.0) (omega arith) z.ensures)
    _
    (rw (c.wide.ensures.0, c.wide-2.ensures.0, c.wide-3.ensures.0, c.wide-4.ensures.0))
    c.if-z-gt63.false)
