use mathlib.Core.Path.{ap}
use Rattle.filter_gather.specs.Internal.Gather.{Gathered}
use Rattle.filter_gather.specs.Internal.Seen.{decoded}
use Rattle.filter_gather.proofs.seen.SeenClauses.has_unknown.Goals as goal

pub returns : goal.returns
unfolding decoded
returns c = ap (λ (g : Gathered). g.unknown) c.self.view_is
