use mathlib.Core.Path.{sym, ◌∙◌, refl}
use Prim.Native.Nat.{ℕ, ◌+◌}
use native.Mathlib.Omega.{arith}
use borrow.Author.Tests.{lt-ltb}
use lib.ListN.{get_or}
use Rattle.octets.proofs.Laws.Number.{big-one}
use Rattle.filter_position.proofs.Laws.Position.{width_one, width_two, width_none, contents_are, contents_cut, contents_none, value-at}
use Rattle.filter_position.proofs.position.contents_at.Goals as goal

pub returns-then-first-lt-SHORT_LIMIT-clause-value : goal.returns-then-first-lt-SHORT_LIMIT-clause-value
returns-then-first-lt-SHORT_LIMIT-clause-value c =
    let p = c.args in
    let x : ℕ = get_or p.s.now (p.at + 1) 0 in
    sym (contents_are p.s.now p.at p.end 0 (p.at + 2) x (rw (lt-ltb x 0x80 c.if-first-lt-SHORT_LIMIT.true)) (omega arith) refl (omega arith))

pub returns-then-end-at-lt3-clause-value : goal.returns-then-end-at-lt3-clause-value
returns-then-end-at-lt3-clause-value c =
    let p = c.args in
    sym (contents_cut p.s.now p.at p.end 1 (width_one c.if-first.true) (omega arith))

pub returns-then-first-clause-value : goal.returns-then-first-clause-value
returns-then-first-clause-value c =
    let p = c.args in
    let v = value-at p.s.now p.at p.end 0 ∙ big-one p.s.now (p.at + 2) (omega arith) in
    sym (contents_are p.s.now p.at p.end 1 (p.at + 3) (get_or p.s.now (p.at + 2) 0) (width_one c.if-first.true) (omega arith) v (omega arith))

pub returns-then-first-2-clause-value : goal.returns-then-first-2-clause-value
returns-then-first-2-clause-value c =
    let p = c.args in
    sym (contents_none p.s.now p.at p.end (width_none c.if-first-lt-SHORT_LIMIT.false c.if-first.false c.if-first-2.true))

pub returns-then-end-at-lt4-clause-value : goal.returns-then-end-at-lt4-clause-value
returns-then-end-at-lt4-clause-value c =
    let p = c.args in
    sym (contents_cut p.s.now p.at p.end 2 (width_two c.if-first-2.false) (omega arith))

pub returns-clause-value : goal.returns-clause-value
returns-clause-value c =
    let p = c.args in
    let v = value-at p.s.now p.at p.end 1 ∙ sym c.two_octets.ensures.value in
    sym (contents_are p.s.now p.at p.end 2 (p.at + 4) c.two_octets.result (width_two c.if-first-2.false) (omega arith) v (omega arith))
