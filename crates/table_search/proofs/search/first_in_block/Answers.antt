use Rattle.std.proofs.Common.{◌≡◌, sym, ap, ◌∙◌, true, false, eqb, arith, ◌*◌}
use borrow.Author.Tests.{eq-eqb, ne_eqb}
use Rattle.octets.proofs.Laws.Lists.{cut-cut}
use Rattle.table.specs.declared.record.RecordFormat.{RecordFormat}
use Rattle.table.specs.Block.{block_size, body_offset, body_size, kind_in}
use Rattle.table.specs.Internal.BlockAt.{block_at}
use Rattle.table.specs.Format.{format_of}
use Rattle.table_find.specs.Internal.Search.{first_in_body, first_in_block}
use Rattle.table_search.proofs.search.first_in_block.Goals as goal

pub returns-then-kind_of-format_of-clause-result_value : goal.returns-then-kind_of-format_of-clause-result_value
unfolding first_in_block
returns-then-kind_of-format_of-clause-result_value g c = λ t says.
    let a = c.args in
    let k = c.kind_of.ensures ∙ ap kind_in c.block_at.ensures in
    let m = ap (λ (f : RecordFormat). f.kind) c.format_of.ensures in
    let e : eqb (kind_in (block_at a.image.now a.place)) (format_of a.kind).kind ≡ false = ne_eqb _ _ (λ q. c.if-kind_of-format_of.true (k ∙ q ∙ sym m)) in
    rw e

pub returns-clause-result_value : goal.returns-clause-result_value
unfolding first_in_block
returns-clause-result_value g c = λ t says.
    let a = c.args in
    let k = c.kind_of.ensures ∙ ap kind_in c.block_at.ensures in
    let m = ap (λ (f : RecordFormat). f.kind) c.format_of.ensures in
    let e : eqb (kind_in (block_at a.image.now a.place)) (format_of a.kind).kind ≡ true = eq-eqb _ _ (sym k ∙ c.if-kind_of-format_of.false ∙ m) in
    let b = c.first_in_body.ensures.result_value t says ∙ ap (first_in_body a.kind t) (sym (cut-cut a.image.now (block_size * a.place.0) block_size body_offset body_size (omega arith))) in
    rw e b
