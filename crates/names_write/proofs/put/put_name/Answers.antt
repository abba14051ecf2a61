use mathlib.Core.Path.{sym, ap, ◌∙◌}
use mathlib.Core.List.{List}
use Prim.Native.Nat.{ℕ, ◌+◌}
use native.Mathlib.Omega.{arith}
use lib.ListN.{take, length-take, length-drop}
use lib.Seq.{length-take-le}
use Rattle.octets.specs.Buffer.{over}
use Rattle.octets.proofs.Laws.Buffer.{over_lent}
use Rattle.lent.specs.Internal.Stretch.{octets_at}
use Rattle.names.specs.Internal.Plan.{literal_octets, ending_octets, name_octets}
use Rattle.lent.proofs.Laws.Stretch.{text_short}
use Rattle.names.proofs.Laws.Plan.{name-length}
use Rattle.names_write.proofs.put.put_name.Goals as goal

pub put_labels-requires : goal.put_labels-requires
put_labels-requires c =
    let p = c.args in
    let f = c.requires.fit in
    let n = name-length p.lent.table.now p.lent.request.now p.name.now f in
    let e = c.text.ensures in
    (rw e (text_short p.lent.table.now p.lent.request.now p.name.now.text), rw e f.labels, omega arith)

pub slice_bounds-put_ending-count : goal.slice_bounds-put_ending-count
slice_bounds-put_ending-count c =
    let p = c.args in
    let f = c.requires.fit in
    let n = name-length p.lent.table.now p.lent.request.now p.name.now f in
    omega arith

pub slice_bounds-put_ending-start : goal.slice_bounds-put_ending-start
slice_bounds-put_ending-start c =
    let p = c.args in
    let f = c.requires.fit in
    let n = name-length p.lent.table.now p.lent.request.now p.name.now f in
    omega arith

pub put_ending-requires : goal.put_ending-requires
put_ending-requires c =
    let p = c.args in
    let f = c.requires.fit in
    let n = name-length p.lent.table.now p.lent.request.now p.name.now f in
    (simp (length-take, length-drop) (omega arith), f.aims)

pub overflow_add-result : goal.overflow_add-result
overflow_add-result c =
    let p = c.args in
    let f = c.requires.fit in
    let n = name-length p.lent.table.now p.lent.request.now p.name.now f in
    omega arith

pub returns : goal.returns
unfolding name_octets
returns c =
    let p = c.args in
    let f = c.requires.fit in
    let n = name-length p.lent.table.now p.lent.request.now p.name.now f in
    let text : List ℕ = octets_at p.lent.table.now p.lent.request.now p.name.now.text in
    let h = c.put_labels in
    let e = h.ensures ∙ ap (λ (s : List ℕ). over (take p.name.now.literal (literal_octets s)) p.out.now) c.text.ensures in
    let q = c.put_ending in
    record {
      value = ap (λ (k : ℕ). p.name.now.literal + k) q.ensures.value ∙ sym n;
      out_after = over_lent (take p.name.now.literal (literal_octets text)) (ending_octets p.name.now.pointer) q.new.out p.out.now h.new.out p.name.now.literal e
          (length-take-le p.name.now.literal (literal_octets text) f.labels) q.ensures.out_after;
    }
