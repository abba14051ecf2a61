use mathlib.Core.Path.{ap, ◌∙◌}
use mathlib.Core.Bool.{not}
use lib.Dec.{eqb}
use Rattle.octets.proofs.Laws.Lists.{not_list_any}
use Rattle.octets.proofs.text.lacks.Goals as goal

pub returns : goal.returns
returns c = ap not c.contains.ensures.value ∙ not_list_any (λ y. eqb y c.args.x) c.args.s.now
