use mathlib.Core.Path.{◌≡◌, sym, ◌∙◌}
use Prim.Native.Nat.{◌-◌, ◌≤◌}
use native.Mathlib.Omega.{arith}
use lib.ListN.{drop}
use Rattle.names.specs.Internal.Plan.{to_dot}
use Rattle.names.proofs.Laws.Plan.Labels.{literal_within, literal_at, front_starts, after_front}
use Rattle.names_write.proofs.put.literal_octet.Goals as goal

pub starts_label-requires : goal.starts_label-requires
starts_label-requires c = literal_within c.args.text.now c.args.at c.requires.1

pub label_end-requires : goal.label_end-requires
label_end-requires c = literal_within c.args.text.now c.args.at c.requires.1

pub returns-then-starts_label : goal.returns-then-starts_label
returns-then-starts_label c =
    let p = c.args in
    let s = p.text.now in
    let e : c.label_end.result - p.at ≡ to_dot (drop p.at s) = omega (arith, c.label_end.ensures.0) in
    e ∙ sym (literal_at s p.at c.requires.1 ∙ rw (sym c.starts_label.ensures ∙ c.if-starts_label.true))

pub overflow_sub-result-2 : goal.overflow_sub-result-2
overflow_sub-result-2 c = front_starts c.args.text.now c.args.at (sym c.starts_label.ensures ∙ c.if-starts_label.false)

pub bounds-text-at : goal.bounds-text-at
bounds-text-at c =
    let p = c.args in
    omega (
      arith,
      literal_within p.text.now p.at c.requires.1,
      front_starts p.text.now p.at (sym c.starts_label.ensures ∙ c.if-starts_label.false),
    )

pub returns : goal.returns
returns c =
    let p = c.args in
    let s = p.text.now in
    let e = sym c.starts_label.ensures ∙ c.if-starts_label.false in
    let k : 1 ≤ p.at = front_starts s p.at e in
    after_front s p.at (λ z. omega arith) ∙ sym (literal_at s p.at c.requires.1 ∙ rw e)
