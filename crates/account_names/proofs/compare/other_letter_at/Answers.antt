use mathlib.Core.Path.{sym, ◌∙◌}
use mathlib.Core.Bool.{not}
use native.Mathlib.Omega.{arith}
use borrow.Author.Tests.{not-true}
use Rattle.octets.proofs.Laws.Lists.{true_not_false, both_left, both_right}
use Rattle.account_names.proofs.Laws.NameOrder.{letters_differ}
use Rattle.account_names.proofs.compare.other_letter_at.Goals as goal

pub returns-then-a-at : goal.returns-then-a-at
returns-then-a-at c = λ e. absurd (true_not_false (sym e))

pub returns-then-b-at : goal.returns-then-b-at
returns-then-b-at c = λ e. absurd (true_not_false (sym e))

pub returns : goal.returns
returns c =
    let a = c.args in
    let ascii = c.are_below in
    let alike = c.letters_alike in
    λ e.
    let below = ascii.ensures.0 (both_left ascii.result (not alike.result) e) in
    letters_differ a.a.now a.b.now a.at a.at (omega arith, below.0) (omega arith, below.1) (sym alike.ensures ∙ not-true alike.result (both_right ascii.result (not alike.result) e))
