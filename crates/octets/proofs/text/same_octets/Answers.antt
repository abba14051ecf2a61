use mathlib.Core.Path.{◌∙◌}
use Rattle.octets.proofs.Laws.Text.{pointwise_same}
use Rattle.octets.proofs.text.same_octets.Goals as goal

pub returns : goal.returns
returns c = c.eq.ensures ∙ pointwise_same c.args.a.now c.args.b.now
