use mathlib.Core.Path.{◌≡◌, sym, ap, ◌∙◌}
use mathlib.Core.Bool.{false}
use borrow.Author.Tests.{not-false}
use Rattle.std.proofs.Common.{Ok, ℕ}
use Rattle.filter_read.specs.Value.{wrong_value_lem, version_asked, ping_in}
use Rattle.filter_read.proofs.Laws.Value.{judge_values_promised}
use Rattle.filter_read.proofs.Laws.WrongValue.{version-right}
use Rattle.filter_read.proofs.value.judge_values.Goals as goal
use Rattle.filter_read.proofs.value.judge_values.Goals.{Else-has_wrong_value}

-- none of the three is wrong
right : (c : Else-has_wrong_value) → wrong_value_lem c.args.s.now c.args.request ≡ false
unfolding wrong_value_lem
right c = sym c.has_wrong_value.ensures ∙ c.if-has_wrong_value.false

pub returns-then-has_wrong_value : goal.returns-then-has_wrong_value
unfolding ping_in wrong_value_lem
returns-then-has_wrong_value c = judge_values_promised _ _ _ (rw (ping_in, wrong_value_lem, sym c.has_wrong_value.ensures ∙ c.if-has_wrong_value.true))

pub returns-in_default : goal.returns-in_default
unfolding ping_in version_asked
returns-in_default c = judge_values_promised _ _ _ (rw (ping_in, right (goal.at.returns-in_default c).Else-has_wrong_value, version_asked, c.in_default.is))

pub clause_number-requires : goal.clause_number-requires
unfolding wrong_value_lem
clause_number-requires c =
    let a = c.args in
    let f = rw c.in-Some.is at (version-right a.s.now a.request.nt_ver a.request.aac a.request.user (right (goal.at.clause_number-requires c).Else-has_wrong_value)) in
    not-false _ f

pub returns : goal.returns
unfolding ping_in version_asked
returns c = judge_values_promised _ _ _ (rw (ping_in, right (goal.at.returns c).Else-has_wrong_value, version_asked, c.in-Some.is) (ap (λ (v : ℕ). Ok v) c.clause_number.ensures))
