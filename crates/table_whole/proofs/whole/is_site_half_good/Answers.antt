use Rattle.std.proofs.Common.{◌∙◌}
use Rattle.table_whole.proofs.Laws.Half.{no_site, some-sites}
use Rattle.table_whole.proofs.whole.is_site_half_good.Goals as goal

pub returns-then-count-eq0 : goal.returns-then-count-eq0
returns-then-count-eq0 c = no_site c.args.image.now _ c.offsets_in-sites.ensures.records c.if-count-eq0.true

pub returns : goal.returns
returns c = c.are_sites_good.ensures ∙ some-sites c.args.image.now _ c.offsets_in-sites.ensures.records c.if-count-eq0.false
