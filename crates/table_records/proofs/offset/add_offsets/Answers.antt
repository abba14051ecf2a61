use Rattle.std.proofs.Common.{◌≡◌, ◌+◌, ◌-◌, ◌*◌, ◌++◌, Bool, true, false, List, ℕ, not, take, sym, ap, ◌∙◌, arith, append-nil}
use Rattle.octets.specs.Text.{all_zero}
use Rattle.octets.specs.Lists.{keep_if}
use Rattle.table_records.specs.Internal.Offset.{offsets_from}
use Rattle.table_records.proofs.Laws.Offset.{offsets_step, offsets_end, put_offset, room_left}
use Rattle.table_records.proofs.offset.add_offsets.Goals as goal
use Rattle.table_records.proofs.offset.add_offsets.Goals.{then-not-all_zero, else-not-all_zero}

pub overflow_cast-out : goal.overflow_cast-out
overflow_cast-out c = let f = c.args.format.now in let fits = c.requires.0 in let h = room_left f.width c.loop-i.i f.count (omega arith) in record { fits = omega arith }

pub loop-i-preserved : goal.loop-i-preserved
loop-i-preserved c =
    let a = c.args in
    let f = a.format.now in
    let l = c.loop-i in
    let at = a.from + f.width * l.i in
    let rest = offsets_from a.image.now f.width (a.from + f.width * (l.i + 1)) (f.count - (l.i + 1)) in
    let found : (b : Bool) → c.all_zero.result ≡ b → offsets_from a.image.now f.width at (f.count - l.i) ≡ keep_if (not b) at rest =
    λ b e. offsets_step a.image.now f.width a.from f.count l.i (omega arith) ∙ ap (λ (b : Bool). keep_if (not b) at rest) (sym (c.all_zero.ensures ∙ ap all_zero c.part.ensures) ∙ e)
    in
    elim c.if-not-all_zero.branch [
      | then-not-all_zero w ↦
          rw (w.count-is, w.out-is)
          (record {
            few = omega arith;
            all = put_offset l.out l.count at rest (omega arith) ∙ sym (ap (λ (xs : List ℕ). take l.count l.out ++ xs) (found false w.if-not-all_zero.true)) ∙ l.invariant.all;
          })
      | else-not-all_zero w ↦
          rw (w.count-is, w.out-is)
          (record {
            few = omega arith;
            all = sym (ap (λ (xs : List ℕ). take l.count l.out ++ xs) (found true w.if-not-all_zero.false)) ∙ l.invariant.all;
          })
    ]

pub returns-clause-out_after : goal.returns-clause-out_after
returns-clause-out_after c =
    let a = c.args in
    let l = c.loop-i in
    sym (append-nil (take l.count l.out))
    ∙ ap (λ (xs : List ℕ). take l.count l.out ++ xs) (sym (offsets_end a.image.now a.format.now.width a.from a.format.now.count l.i (omega arith)))
    ∙ l.invariant.all
