use Rattle.std.proofs.Common.{◌≡◌, ℕ, ◌+◌, ◌-◌, ◌≤◌, ◌<◌, List, get_or, length, drop, sym, ap, ◌∙◌, arith}
use Rattle.std.specs.declared.cmp.Ordering.{Ordering}
use Rattle.std.specs.declared.cmp.Ordering.TheVariants.{Less, Equal, Greater}
use Rattle.table_unique.specs.Internal.Neighbours.{rising_then, neighbours_by}
use Rattle.table_unique.proofs.Laws.Neighbours.{neighbours_as, neighbours_end}
use Rattle.table_unique.proofs.unique.compare_neighbours.Goals as goal

pub loop-i-preserved : goal.loop-i-preserved
loop-i-preserved g c =
    let l = c.loop-i in
    let s = c.args.offsets.now in
    let compare = g.K.Keyed.compare c.args.records.now in
    let here : l.i + 1 - 1 ≡ l.i = omega arith in
    ap (λ (k : ℕ). neighbours_by compare (drop k s)) here
    ∙ neighbours_as compare s (l.i - 1) l.i (omega arith) (omega arith) Less (sym c.compare.ensures ∙ c.in-Less.is)
    ∙ l.invariant

pub returns-in-Equal : goal.returns-in-Equal
returns-in-Equal g c =
    let l = c.loop-i in
    neighbours_as (g.K.Keyed.compare c.args.records.now) c.args.offsets.now (l.i - 1) l.i (omega arith) (omega arith) Equal (sym c.compare.ensures ∙ c.in-Equal.is) ∙ l.invariant

pub returns-in-Greater : goal.returns-in-Greater
returns-in-Greater g c =
    let l = c.loop-i in
    neighbours_as (g.K.Keyed.compare c.args.records.now) c.args.offsets.now (l.i - 1) l.i (omega arith) (omega arith) Greater (sym c.compare.ensures ∙ c.in-Greater.is) ∙ l.invariant

pub returns : goal.returns
returns g c =
    let l = c.loop-i in
    neighbours_end (g.K.Keyed.compare c.args.records.now) c.args.offsets.now (l.i - 1) (omega arith) ∙ l.invariant
