use mathlib.Core.Path.{◌≡◌, refl, sym, ap, ◌∙◌}
use mathlib.Core.Bool.{Bool, true, false}
use Prim.Native.Nat.{ℕ, ◌-◌}
use native.Mathlib.Omega.{arith}
use borrow.Author.Rules.{rules}
use Rattle.filter_position.specs.Filter.{siblings, and_of}
use Rattle.filter_gather.specs.Internal.Gather.{Good, gathering_of, gathered_from, all_added}
use Rattle.filter_position.proofs.Laws.Position.{and_deeper}
use Rattle.filter_gather.proofs.Laws.Turn.{turn_wrong, turn-bad, turn_last, turn-next}
use Rattle.filter_gather.proofs.gather.+and_of_one_of.Goals as goal

pub and_of-returns-then-depth-eq0 : goal.and_of-returns-then-depth-eq0
unfolding and_of
and_of-returns-then-depth-eq0 t c =
    let p = c.args in
    ap (λ (d : ℕ). gathered_from p.s.now p.seen.now (and_of d p.s.now p.inside.at p.inside.end)) (sym c.if-depth-eq0.true)

pub and_of-loop-read-init : goal.and_of-loop-read-init
and_of-loop-read-init t c =
    let p = c.args in
    (p.inside.end - p.inside.at, omega arith, refl, omega arith, ap (gathered_from p.s.now p.seen.now) (and_deeper p.depth p.s.now p.inside.at p.inside.end c.if-depth-eq0.false))

pub and_of-returns-in_default : goal.and_of-returns-in_default
and_of-returns-in_default t c =
    let p = c.args in
    let l = c.loop-read in
    let e = sym c.filter.ensures.value ∙ c.in_default.is in
    sym (turn_wrong (p.depth - 1) p.s.now l.position.end l.seen l.invariant.0 l.position.at e) ∙ l.invariant.4

pub and_of-returns-then-not-one_of : goal.and_of-returns-then-not-one_of
and_of-returns-then-not-one_of t c =
    let p = c.args in
    let l = c.loop-read in
    let e = sym c.in-Some.ensures.value in
    let f : c.one_of.result ≡ false = search rules in
    let b = sym c.one_of.ensures ∙ ap (λ (x : Bool). gathering_of x c.one_of.new.seen) f in
    sym (turn-bad (p.depth - 1) p.s.now l.position.end l.seen l.position.at c.in-Some.read e l.invariant.0 b) ∙ l.invariant.4

pub and_of-returns-then-read : goal.and_of-returns-then-read
and_of-returns-then-read t c =
    let p = c.args in
    let l = c.loop-read in
    let e = sym c.in-Some.ensures.value in
    let w = c.in-Some.ensures.read_within in
    let f : c.one_of.result ≡ true = search rules in
    let b = sym c.one_of.ensures ∙ ap (λ (x : Bool). gathering_of x c.one_of.new.seen) f in
    sym (turn_last (p.depth - 1) p.s.now l.position.end l.seen l.position.at c.in-Some.read e c.one_of.new.seen b l.invariant.0 (omega arith) (c.if-read.true ∙ w.2)) ∙ l.invariant.4

pub and_of-loop-read-preserved : goal.and_of-loop-read-preserved
and_of-loop-read-preserved t c =
    let p = c.args in
    let l = c.loop-read in
    let e = sym c.in-Some.ensures.value in
    let w = c.in-Some.ensures.read_within in
    let f : c.one_of.result ≡ true = search rules in
    let b = sym c.one_of.ensures ∙ ap (λ (x : Bool). gathering_of x c.one_of.new.seen) f in (
      l.invariant.0 - 1,
      omega arith,
      w.2 ∙ l.invariant.2,
      omega arith,
      ap (λ (n : ℕ). gathered_from p.s.now c.one_of.new.seen (siblings (and_of (p.depth - 1)) (l.invariant.0 - 1) p.s.now c.in-Some.read.rest.at n)) w.2
          ∙ turn-next (p.depth - 1) p.s.now l.position.end l.seen l.position.at c.in-Some.read e c.one_of.new.seen b l.invariant.0 (omega arith) (λ q. c.if-read.false (q ∙ sym w.2))
          ∙ l.invariant.4,
    )

pub one_of-returns-in-Clause : goal.one_of-returns-in-Clause
unfolding all_added
one_of-returns-in-Clause t c = rw c.in-Clause.is (ap Good c.add.ensures)
