use Rattle.octets.specs.Number.{has}
use mathlib.Core.Path.{refl}
use Rattle.octets.proofs.number.has_bits.Goals as goal

pub returns : goal.returns
unfolding has
returns c = refl
