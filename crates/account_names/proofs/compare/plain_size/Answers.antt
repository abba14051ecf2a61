use mathlib.Core.Path.{sym, ◌∙◌}
use native.Mathlib.Omega.{arith}
use borrow.Author.Tests.{not-false, eqb-true}
use Rattle.account_names.proofs.Laws.NameOrder.{letters_alike}
use Rattle.account_names.proofs.compare.plain_size.Goals as goal

pub returns-then-a-at : goal.returns-then-a-at
returns-then-a-at c = λ h. absurd (omega (arith, h))

pub returns-then-b-at : goal.returns-then-b-at
returns-then-b-at c = λ h. absurd (omega (arith, h))

pub returns-then-letters_alike : goal.returns-then-letters_alike
returns-then-letters_alike c =
    let a = c.args in
    let below = c.are_below.ensures.0 (not-false _ c.if-not-are_below.false-raw) in
    letters_alike a.a.now a.b.now a.at a.at (omega arith, below.0) (omega arith, below.1) (eqb-true _ _ (sym c.letters_alike.ensures ∙ c.if-letters_alike.true))

pub returns : goal.returns
returns c = λ h. absurd (omega (arith, h))
