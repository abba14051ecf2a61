use Rattle.unicode_text.proofs.Laws.Point.{lead-past, coded_bad, code_three, code_four}
use borrow.Author.Rules.{rules}
use Rattle.unicode_text.proofs.utf8.point_of_more.Goals as goal

pub returns-then-lead-lt240 : goal.returns-then-lead-lt240
returns-then-lead-lt240 c = code_three _ _ _ _ _ c.requires c.if-lead-lt240.true c.point_of_three.ensures

pub returns-then-lead-lt245 : goal.returns-then-lead-lt245
returns-then-lead-lt245 c = code_four _ _ _ _ _ c.if-lead-lt240.false c.point_of_four.ensures

pub returns : goal.returns
returns c = code_four _ _ _ _ _ c.if-lead-lt240.false (λ s at p. coded_bad s at 4 (lead-past s at _ p.0 p.1 c.if-lead-lt245.false))
