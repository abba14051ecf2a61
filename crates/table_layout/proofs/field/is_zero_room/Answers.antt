use Rattle.table_layout.proofs.Laws.Field.{zeros_none}
use Rattle.table_layout.specs.Field.{zeros}
use Rattle.octets.specs.Text.{all_zero}
use mathlib.Core.Path.{ap, ◌∙◌}
use Rattle.table_layout.proofs.field.is_zero_room.Goals as goal

pub returns-then-end-from : goal.returns-then-end-from
returns-then-end-from c = let a = c.args in zeros_none a.s.now a.from a.end c.if-end-from.true

pub returns : goal.returns
unfolding zeros
returns c = c.all_zero.ensures ∙ ap all_zero c.part.ensures
