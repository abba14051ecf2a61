use mathlib.Core.Path.{ap}
use Rattle.table.specs.Countings.{site_number}
use Rattle.table.specs.Site.{site_of}
use Rattle.table.proofs.site.number.Goals as goal

pub returns : goal.returns
unfolding site_of
returns c = ap site_number c.u16_in.ensures
