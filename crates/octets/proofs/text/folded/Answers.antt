use mathlib.Core.Path.{◌∙◌}
use Rattle.octets.proofs.Laws.Text.{lowercase}
use Rattle.octets.proofs.text.folded.Goals as goal

pub returns-then-ignore_case : goal.returns-then-ignore_case
returns-then-ignore_case c = rw c.if-ignore_case.true (c.to_ascii_lowercase.ensures.value ∙ lowercase c.args.x)
