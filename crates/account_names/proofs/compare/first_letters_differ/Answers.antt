use mathlib.Core.Path.{sym, ◌∙◌}
use Rattle.account_names.proofs.Laws.NameOrder.{names_equal}
use Rattle.account_names.proofs.compare.first_letters_differ.Goals as goal

pub returns : goal.returns
returns c t =
    let p = c.args in
    sym (names_equal p.a.now p.b.now) ∙ c.other_letter_at.ensures t
