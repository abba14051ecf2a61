use mathlib.Core.Path.{◌≡◌, sym, ◌∙◌}
use mathlib.Core.Bool.{◌&&◌}
use Rattle.octets.specs.NameRule.{sized, printable, is_plain_name}
use Rattle.name_rules.proofs.name_rule.is_plain_name.Goals as goal
use Rattle.name_rules.proofs.name_rule.is_plain_name.Goals.{then-is_sized, else-is_sized, Joined-is_sized}

-- both tests, where they join
both : (c : Joined-is_sized) → c.if-is_sized.value ≡ (sized 1 c.args.room c.args.s.now && printable c.args.s.now)
both c =
    elim c.if-is_sized.branch [
      | then-is_sized w ↦ rw (sym c.is_sized.ensures ∙ w.if-is_sized.true) (w.value-is ∙ w.is_printable.ensures)
      | else-is_sized w ↦ rw (sym c.is_sized.ensures ∙ w.if-is_sized.false) (w.value-is ∙ w.if-is_sized.false)
    ]

pub returns-then-is_printable : goal.returns-then-is_printable
unfolding is_plain_name
returns-then-is_printable c = rw (sym (both (goal.at.returns-then-is_printable c).Joined-is_sized) ∙ c.if-is_printable.true) c.lacks.ensures

pub returns-else-is_printable : goal.returns-else-is_printable
unfolding is_plain_name
returns-else-is_printable c = rw (sym (both (goal.at.returns-else-is_printable c).Joined-is_sized) ∙ c.if-is_printable.false) c.if-is_printable.false
