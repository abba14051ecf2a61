use Rattle.unicode_text.proofs.Laws.Point.{code_two}
use borrow.Author.Rules.{rules}
use Rattle.unicode_text.proofs.utf8.point_of.Goals as goal

pub returns-then-lead-lt224 : goal.returns-then-lead-lt224
returns-then-lead-lt224 c =
    let least = c.requires in
    let short = c.if-lead-lt224.true in
    code_two _ _ _ _ _ least short (c.point_of_two.ensures.code_of least)
