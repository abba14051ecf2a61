use mathlib.Core.Path.{ap}
use Prim.Native.Nat.{ℕ}
use lib.Dec.{eqb}
use Rattle.filter_gather.proofs.letters.is_letter.Goals as goal

pub returns : goal.returns
returns c = ap (λ (y : ℕ). eqb y c.args.small) c.folded.ensures
