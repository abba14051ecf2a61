use mathlib.Core.Path.{ap₂}
use mathlib.Core.Bool.{◌||◌}
use Rattle.filter_read.proofs.wrong_value.has_wrong_value.Goals as goal

pub returns : goal.returns
returns c = ap₂ ◌||◌ (ap₂ ◌||◌ c.is_wrong_number.ensures c.is_wrong_number-2.ensures) c.is_wrong_user.ensures
