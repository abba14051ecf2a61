use Rattle.std.proofs.Common.{◌≡◌, refl, sym, ap, subst, ◌∙◌, ◌&&◌, List, ℕ, ◌+◌, Option, drop}
use Rattle.octets.specs.Lists.{cut}
use Rattle.table.specs.declared.record.RecordKind.TheVariants as kind
use Rattle.table.specs.Block.{body_size}
use Rattle.table.specs.Subnet.{subnet_of}
use Rattle.table.specs.Table.{is_used}
use Rattle.table_find.specs.Find.{in_subnet}
use Rattle.table_find.specs.Internal.Found.{LiesIn, subnet_at}
use Rattle.table_find.specs.Internal.Nearest.{nearest_over, nearest_in_body}
use Rattle.table_search.proofs.Laws.Record.{records_at, record_there}
use Rattle.table_search.proofs.Laws.Nearest.{held_in, left_out, over_record, over_body}
use Rattle.table_search.proofs.nearest.nearest_in_body.Goals as goal
use Rattle.table_search.proofs.nearest.nearest_in_body.Goals.{then-is_holder, else-is_holder}

pub loop-i-init : goal.loop-i-init
unfolding nearest_in_body
loop-i-init c = (c.requires.1, refl)

pub loop-i-preserved : goal.loop-i-preserved
loop-i-preserved c =
    let a = c.args in
    let l = c.loop-i in
    let r = record_there kind.Subnet a.image.now a.body l.i in
    let holds : c.is_holder.result ≡ (is_used r && in_subnet a.address (subnet_of r)) = c.is_holder.ensures ∙ ap (λ (s : List ℕ). is_used s && in_subnet a.address (subnet_of s)) c.part.ensures in
    let Kept : Option ℕ → Type 0 = λ best. LiesIn a.image.now kind.Subnet best
    × (nearest_over a.address (subnet_at a.image.now best) (drop (l.i + 1) (records_at kind.Subnet a.image.now a.body)) ≡ nearest_in_body a.address (subnet_at a.image.now a.start) (cut a.image.now a.body body_size)) in
    elim c.if-is_holder.branch [
      | then-is_holder w ↦ subst Kept (sym w.best-is) (
        w.longer_prefix-best.ensures.lies_in,
        over_record a.address a.image.now a.body l.i (subnet_at a.image.now l.best) _ c.loop-i-test.true (w.longer_prefix-best.ensures.result_value ∙ held_in a.address (subnet_at a.image.now l.best) r (sym holds ∙ w.if-is_holder.true))
            ∙ l.invariant.1,
      )
      | else-is_holder w ↦ subst Kept (sym w.best-is) (
        l.invariant.0,
        over_record a.address a.image.now a.body l.i (subnet_at a.image.now l.best) _ c.loop-i-test.true (left_out a.address (subnet_at a.image.now l.best) r (sym holds ∙ w.if-is_holder.false))
            ∙ l.invariant.1,
      )
    ]

pub returns-clause-result_value : goal.returns-clause-result_value
returns-clause-result_value c =
    let a = c.args in
    let l = c.loop-i in
    over_body a.address a.image.now a.body l.i (subnet_at a.image.now l.best) c.loop-i-test.false ∙ l.invariant.1
