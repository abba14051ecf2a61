use mathlib.Core.Path.{◌≡◌, sym, ap, ◌∙◌}
use lib.ListN.{drop}
use Rattle.account_names.specs.AccountName.{same_account_name}
use Rattle.std.specs.Ordering.{is_eq}
use Rattle.account_names.specs.Internal.NameOrder.{compare_names}
use Rattle.account_names.proofs.Laws.NameOrder.{names_equal}
use Rattle.account_names.proofs.compare.same_account_name.Goals as goal
use Rattle.account_names.proofs.compare.same_account_name.Goals.{After-plain_start-start}

-- they are the same where they compare as equal behind what was passed over
told : (c : After-plain_start-start)
    → let p = c.args in
    is_eq (compare_names (drop c.plain_start-start.result p.a.now) (drop c.plain_start-start.result p.b.now)) ≡ same_account_name p.a.now p.b.now
told c = let p = c.args in ap is_eq c.plain_start-start.ensures.2 ∙ names_equal p.a.now p.b.now

pub returns-then-a-start : goal.returns-then-a-start
returns-then-a-start c = c.same_rest.ensures ∙ told (goal.at.returns-then-a-start c).After-plain_start-start

pub returns-then-other_letter_at : goal.returns-then-other_letter_at
returns-then-other_letter_at c = sym (c.other_letter_at.ensures c.if-other_letter_at.true) ∙ told (goal.at.returns-then-other_letter_at c).After-plain_start-start

pub returns : goal.returns
returns c = c.same_rest-2.ensures ∙ told (goal.at.returns c).After-plain_start-start
