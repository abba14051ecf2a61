use Rattle.std.proofs.Common.{◌∙◌}
use Rattle.table_whole.proofs.Laws.Half.{subnets-unique}
use Rattle.table_whole.proofs.whole.are_subnets_unique.Goals as goal

pub returns : goal.returns
returns c = let o = c.offsets_in-subnets in c.are_networks_unique.ensures ∙ subnets-unique c.args.image.now _ o.ensures.records
