use Rattle.std.proofs.Common.{◌+◌, ◌<◌, ◌≤◌, ◌&&◌, Bool, length, drop, sym, ap, ◌∙◌, arith}
use mathlib.Core.Bool.{and-true, and_assoc}
use Rattle.filter_gather.specs.Internal.Letters.{letters_at}
use Rattle.filter_gather.proofs.Laws.Letters.{letters_next, letters_done}
use Rattle.filter_gather.proofs.letters.are_letters.Goals as goal

pub loop-i-preserved : goal.loop-i-preserved
loop-i-preserved g c =
    let a = c.args in
    let l = c.loop-i in
    let h : l.i < length a.small.now = omega arith in
    and_assoc l.same c.is_letter-same.result (letters_at a.s.now (a.at + (l.i + 1)) (drop (l.i + 1) a.small.now))
    ∙ ap (λ (b : Bool). l.same && b) (ap (λ (b : Bool). b && letters_at a.s.now (a.at + (l.i + 1)) (drop (l.i + 1) a.small.now)) c.is_letter-same.ensures ∙ sym (letters_next a.s.now a.small.now a.at l.i h))
    ∙ l.invariant

pub returns : goal.returns
returns g c =
    let a = c.args in
    let l = c.loop-i in
    let h : length a.small.now ≤ l.i = omega arith in
    sym (and-true l.same) ∙ ap (λ (b : Bool). l.same && b) (sym (letters_done a.s.now a.small.now a.at l.i h)) ∙ l.invariant
