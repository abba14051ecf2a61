use Rattle.std.proofs.Common.{◌++◌, List, ℕ, get_or, take, sym, ap, ◌∙◌, arith, append-nil, eq-eqb, ne_eqb}
use Rattle.table_records.specs.Internal.Offset.{records_at}
use Rattle.table_records.proofs.Laws.Offset.{one_more, used-end, step_in, step_over}
use Rattle.table_records.proofs.offset.kind_offsets.Goals as goal
use Rattle.table_records.proofs.offset.kind_offsets.Goals.{then-kind_of-format, else-kind_of-format}

pub loop-place-preserved : goal.loop-place-preserved
loop-place-preserved c =
    let a = c.args in
    let f = a.format.now in
    let l = c.loop-place in
    let kind = c.kind_of.ensures ∙ ap (λ (b : List ℕ). get_or b 0 0) c.block_at.ensures in
    elim c.if-kind_of-format.branch [
      | then-kind_of-format w ↦
          let add = w.add_offsets-count.ensures in
          rw (w.count-is, w.out-is)
          (record {
            few = omega (arith, one_more f.count l.place);
            all = step_in f a.image.now l.place (omega arith) (take l.count l.out) _ c.requires.1.in_body (eq-eqb _ _ (sym kind ∙ w.if-kind_of-format.true)) add.out_after ∙ l.invariant.all;
          })
      | else-kind_of-format w ↦
          rw (w.count-is, w.out-is)
          (record {
            few = omega (arith, one_more f.count l.place);
            all =
                ap (λ (rs : List (List ℕ)). records_at a.image.now f.width (take l.count l.out) ++ rs) (step_over f a.image.now l.place (omega arith) (ne_eqb _ _ (λ e. w.if-kind_of-format.false (kind ∙ e))))
                ∙ l.invariant.all;
          })
    ]

pub returns-clause-out_after : goal.returns-clause-out_after
returns-clause-out_after c =
    let a = c.args in
    let l = c.loop-place in
    sym (append-nil _)
    ∙ ap (λ (rs : List (List ℕ)). records_at a.image.now a.format.now.width (take l.count l.out) ++ rs) (sym (used-end a.format.now a.image.now l.place (omega arith)))
    ∙ l.invariant.all
