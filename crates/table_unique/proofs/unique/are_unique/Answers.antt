use Rattle.std.proofs.Common.{sym, ◌∙◌}
use Rattle.table_unique.proofs.Laws.Neighbours.{sorted_rising, sorted_duplicate, in_pairs}
use Rattle.table_unique.proofs.unique.are_unique.Goals as goal

pub returns-in-Rising : goal.returns-in-Rising
returns-in-Rising g c =
    sorted_rising _ _ (g.met.K.Keyed.laws c.args.records.now) c.args.offsets.now _ c.put_in_order.ensures (sym c.in-Rising.is ∙ c.compare_neighbours.ensures)

pub returns-in-Duplicate : goal.returns-in-Duplicate
returns-in-Duplicate g c =
    sorted_duplicate _ _ (g.met.K.Keyed.laws c.args.records.now) c.args.offsets.now _ c.put_in_order.ensures (sym c.in-Duplicate.is ∙ c.compare_neighbours.ensures)

pub returns-in-Unsorted : goal.returns-in-Unsorted
returns-in-Unsorted g c =
    c.all_unique.ensures ∙ in_pairs _ _ (g.met.K.Keyed.laws c.args.records.now) c.args.offsets.now _ c.put_in_order.ensures
