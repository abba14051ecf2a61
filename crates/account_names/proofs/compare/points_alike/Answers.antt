use mathlib.Core.Path.{sym, ◌∙◌}
use borrow.Author.Tests.{eqb-true}
use Rattle.octets.proofs.Laws.Lists.{true_not_false}
use Rattle.account_names.proofs.compare.points_alike.Goals as goal

pub returns-then-p-ge-NO_POINT : goal.returns-then-p-ge-NO_POINT
returns-then-p-ge-NO_POINT c = λ e. absurd (true_not_false (sym e))

pub returns-then-q-ge-NO_POINT : goal.returns-then-q-ge-NO_POINT
returns-then-q-ge-NO_POINT c = λ e. absurd (true_not_false (sym e))

pub returns : goal.returns
returns c = λ e. (c.if-p-ge-NO_POINT.false, c.if-q-ge-NO_POINT.false, sym c.fold_point.ensures.value ∙ eqb-true _ _ e ∙ c.fold_point-2.ensures.value)
