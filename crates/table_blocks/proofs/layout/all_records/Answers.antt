use mathlib.Core.Path.{◌≡◌, refl, sym, ap, ◌∙◌}
use Prim.Native.Nat.{ℕ, ◌+◌, ◌*◌, ◌≤◌, ◌<◌}
use native.Mathlib.Omega.{arith}
use borrow.Author.Tests.{not-true, not-false}
use Rattle.octets.specs.Lists.{cut}
use Rattle.octets.proofs.Laws.Lists.{all_piece_fails, all_piece_next, all-pieces-end}
use Rattle.table.specs.declared.record.RecordFormat.{RecordFormat}
use Rattle.table.specs.Format.{format_of}
use Rattle.table.proofs.Laws.Format.{record_fits}
use Rattle.table_layout.specs.Layout.{record_layout}
use Rattle.table_blocks.proofs.layout.all_records.Goals as goal
use Rattle.table_blocks.proofs.layout.all_records.Goals.{After-format_of-format, After-record_layout}

-- the format in hand is that of the kind
count-is : (c : After-format_of-format) → c.format_of-format.result.count ≡ (format_of c.args.kind).count
count-is c = ap (λ (f : RecordFormat). f.count) c.format_of-format.ensures

width_is : (c : After-format_of-format) → c.format_of-format.result.width ≡ (format_of c.args.kind).width
width_is c = ap (λ (f : RecordFormat). f.width) c.format_of-format.ensures

-- what the record at i is judged to be
judged : (c : After-record_layout)
    → (let p = c.args in record_layout p.kind (cut p.b.now ((format_of p.kind).width * c.loop-i.i) (format_of p.kind).width))
    ≡ c.record_layout.result
judged c =
    let p = c.args in
    ap (λ (w : ℕ). record_layout p.kind (cut p.b.now (w * c.loop-i.i) w)) (sym (ap (λ (f : RecordFormat). f.width) c.format_of-format.ensures))
    ∙ ap (record_layout p.kind) (sym c.part.ensures)
    ∙ sym c.record_layout.ensures

pub overflow_mul-width : goal.overflow_mul-width
overflow_mul-width c =
    let k = c.args.kind in
    let i = c.loop-i.i in
    let h : i < (format_of k).count = omega (arith, count-is (goal.at.overflow_mul-width c).After-format_of-format) in
    let fits : (format_of k).width * i + (format_of k).width ≤ 504 = record_fits k i h in
    rw (width_is (goal.at.overflow_mul-width c).After-format_of-format) (omega arith)

pub returns-then-not-record_layout : goal.returns-then-not-record_layout
returns-then-not-record_layout c =
    let p = c.args in
    let l = c.loop-i in
    all_piece_fails (record_layout p.kind) (format_of p.kind).count (format_of p.kind).width p.b.now l.i (omega (arith, count-is (goal.at.returns-then-not-record_layout c).After-format_of-format))
    (judged (goal.at.returns-then-not-record_layout c).After-record_layout ∙ not-true _ c.if-not-record_layout.true-raw)
    ∙ l.invariant

pub loop-i-preserved : goal.loop-i-preserved
loop-i-preserved c =
    let p = c.args in
    let l = c.loop-i in
    let h : l.i < (format_of p.kind).count = omega (arith, count-is (goal.at.loop-i-preserved c).After-format_of-format) in
    all_piece_next (record_layout p.kind) (format_of p.kind).count (format_of p.kind).width p.b.now l.i h
    (judged (goal.at.loop-i-preserved c).After-record_layout ∙ not-false _ c.if-not-record_layout.false-raw)
    ∙ l.invariant

pub returns : goal.returns
returns c =
    let p = c.args in
    let l = c.loop-i in
    all-pieces-end (record_layout p.kind) (format_of p.kind).count (format_of p.kind).width p.b.now l.i (omega (arith, count-is (goal.at.returns c).After-format_of-format)) ∙ l.invariant
