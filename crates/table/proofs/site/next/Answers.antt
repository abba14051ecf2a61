use Rattle.table.specs.Site.{site_of}
use Rattle.table.proofs.site.next.Goals as goal

pub returns : goal.returns
unfolding site_of
returns c = c.reference_in.ensures
