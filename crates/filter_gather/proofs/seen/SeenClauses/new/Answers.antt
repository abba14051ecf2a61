use mathlib.Core.Path.{refl}
use Rattle.filter_gather.specs.Internal.Seen.{decoded}
use Rattle.filter_gather.proofs.seen.SeenClauses.new.Goals as goal

pub returns : goal.returns
unfolding decoded
returns c = refl
