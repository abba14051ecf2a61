use mathlib.Core.Path.{sym, ◌∙◌}
use native.Mathlib.Omega.{arith}
use lib.ListN.{get_or}
use Rattle.filter_position.proofs.Laws.Position.{element-short, element_known, element_unknown, ends-past, ends-within}
use Rattle.filter_position.proofs.position.Position.element.Goals as goal

pub returns-then-end-at-lt2-clause-value : goal.returns-then-end-at-lt2-clause-value
returns-then-end-at-lt2-clause-value c = sym (element-short c.args.s.now c.args.self.at c.args.self.end (omega arith))

pub returns-in_err-contents-clause-value : goal.returns-in_err-contents-clause-value
returns-in_err-contents-clause-value c =
    let p = c.args in
    c.from_residual.ensures ∙ sym (element_unknown p.s.now p.self.at p.self.end (omega arith) (sym c.in_err-contents.ensures.value))

pub returns-then-end-start-clause-value : goal.returns-then-end-start-clause-value
returns-then-end-start-clause-value c =
    let p = c.args in
    let n = c.in_ok-contents.contents in
    sym
    (element_known p.s.now p.self.at p.self.end n.start n.len (omega arith) (sym c.in_ok-contents.ensures.value) ∙ ends-past (get_or p.s.now p.self.at 0) n.start n.len p.self.end (omega arith))

pub returns-clause-value : goal.returns-clause-value
returns-clause-value c =
    let p = c.args in
    let n = c.in_ok-contents.contents in
    let w = c.in_ok-contents.ensures.contents_within in
    sym
    (element_known p.s.now p.self.at p.self.end n.start n.len (omega arith) (sym c.in_ok-contents.ensures.value) ∙ ends-within (get_or p.s.now p.self.at 0) n.start n.len p.self.end (omega arith))
