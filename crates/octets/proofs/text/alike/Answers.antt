use mathlib.Core.Path.{sym, ap₂, ◌∙◌}
use Rattle.octets.specs.Text.{same}
use Rattle.octets.proofs.Laws.Text.{map_id}
use Rattle.octets.proofs.text.alike.Goals as goal

pub returns-then-ignore_case : goal.returns-then-ignore_case
returns-then-ignore_case c = rw c.if-ignore_case.true c.same_folded.ensures

pub returns-else-ignore_case : goal.returns-else-ignore_case
returns-else-ignore_case c = let p = c.args in rw c.if-ignore_case.false (c.same_octets.ensures ∙ sym (ap₂ same (map_id p.a.now) (map_id p.b.now)))
