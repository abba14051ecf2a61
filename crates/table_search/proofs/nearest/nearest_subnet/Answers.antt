use Rattle.std.proofs.Common.{◌≡◌, sym, ap, subst, ◌∙◌, arith, List, ℕ, ◌+◌, ◌*◌, ◌≤◌, length, Option, None, drop}
use borrow.Author.Tests.{eq-eqb, ne_eqb}
use Rattle.octets.proofs.Laws.Lists.{cut-cut}
use Rattle.table.specs.declared.record.RecordKind.TheVariants as kind
use Rattle.table.specs.Block.{block_size, blocks_of, body_offset, body_size, kind_in}
use Rattle.table.specs.Internal.BlockAt.{block_at}
use Rattle.table.specs.Countings.{block_place}
use Rattle.table_whole.specs.Judgement.{Accepted}
use Rattle.table_whole.proofs.Laws.Judgement.{accepted_bounds}
use Rattle.table_find.specs.Internal.Found.{LiesIn, subnet_at}
use Rattle.table_find.specs.Internal.Nearest.{nearest_in_body, nearest_in}
use Rattle.table_search.proofs.Laws.Nearest.{in_block, past_block, nearest_end}
use Rattle.table_search.proofs.nearest.nearest_subnet.Goals as goal
use Rattle.table_search.proofs.nearest.nearest_subnet.Goals.{then-kind_of, else-kind_of}

pub overflow_cast-i : goal.overflow_cast-i
overflow_cast-i c =
    let s = c.octets-octets.result.now in
    let most : length s ≤ 65536 = (accepted_bounds s (subst Accepted (sym c.octets-octets.ensures.same) c.octets-octets.ensures.accepted)).1 in
    omega (arith, most)

pub loop-i-preserved : goal.loop-i-preserved
loop-i-preserved c =
    let a = c.args in
    let s = c.octets-octets.result.now in
    let l = c.loop-i in
    let best = subnet_at s l.best in
    let k : c.kind_of.result ≡ kind_in (block_at s (block_place l.i)) = c.kind_of.ensures ∙ ap kind_in c.block_at.ensures in
    let Kept : Option ℕ → Type 0 = λ o. LiesIn s kind.Subnet o × (nearest_in a.address (subnet_at s o) (drop (l.i + 1) (blocks_of s)) ≡ nearest_in a.address None (blocks_of s)) in
    elim c.if-kind_of.branch [
      | then-kind_of w ↦
          let there = w.nearest_in_body-best.ensures.result_value ∙ ap (nearest_in_body a.address best) (sym (cut-cut s (block_size * l.i) block_size body_offset body_size (omega arith))) in
          subst Kept (sym w.best-is) (w.nearest_in_body-best.ensures.lies_in, in_block a.address best _ s l.i c.loop-i-test.true (eq-eqb _ _ (sym k ∙ w.if-kind_of.true)) there ∙ l.invariant.1)
      | else-kind_of w ↦ subst Kept (sym w.best-is) (l.invariant.0, past_block a.address best s l.i c.loop-i-test.true (ne_eqb _ _ (λ q. w.if-kind_of.false (k ∙ q))) ∙ l.invariant.1)
    ]

pub returns-clause-result_value : goal.returns-clause-result_value
returns-clause-result_value c =
    let a = c.args in
    let s = c.octets-octets.result.now in
    let l = c.loop-i in
    let found = nearest_end a.address (subnet_at s l.best) s l.i c.loop-i-test.false ∙ l.invariant.1 in
    subst (λ (r : List ℕ). subnet_at r l.best ≡ nearest_in a.address None (blocks_of r)) c.octets-octets.ensures.same found
