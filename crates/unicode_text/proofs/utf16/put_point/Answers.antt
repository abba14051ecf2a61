use borrow.Author.Rules.{rules}
use mathlib.Core.Path.{sym, ap, ◌∙◌}
use mathlib.Core.List.{List}
use Prim.Native.Nat.{ℕ}
use native.Mathlib.Omega.{arith}
use lib.ListN.{length}
use Rattle.octets.specs.Buffer.{over}
use Rattle.octets.specs.Number.{little_octets}
use Rattle.lent.proofs.Laws.OverAt.{laid_over, laid_number, over_laid, length_laid}
use Rattle.unicode_text.specs.Utf16.{high_unit, low_unit}
use Rattle.unicode_text.proofs.Laws.Utf16.{one_unit_octets, two-units-octets}
use Rattle.unicode_text.proofs.utf16.put_point.Goals as goal

pub put_u16-requires : goal.put_u16-requires
unfolding little_octets
put_u16-requires c =
    let e = ap length (one_unit_octets c.args.point c.if-point-lt-TWO_UNITS_FROM.true) in
    omega arith

pub returns-then-point-lt-TWO_UNITS_FROM : goal.returns-then-point-lt-TWO_UNITS_FROM
unfolding little_octets
returns-then-point-lt-TWO_UNITS_FROM c =
    let a = c.args in
    let w = c.put_u16 in
    let e = one_unit_octets a.point c.if-point-lt-TWO_UNITS_FROM.true in
    record {
      value = w.ensures.value ∙ sym (ap length e);
      out_after = w.ensures.out_after ∙ ap (λ (x : List ℕ). over x a.out.now) (sym e);
    }

pub put_u16-at-requires : goal.put_u16-at-requires
unfolding little_octets
put_u16-at-requires c =
    let e = ap length (two-units-octets c.args.point c.if-point-lt-TWO_UNITS_FROM.false) in
    omega arith

pub put_u16_at-requires : goal.put_u16_at-requires
unfolding little_octets
put_u16_at-requires c =
    let e = ap length (two-units-octets c.args.point c.if-point-lt-TWO_UNITS_FROM.false) in
    omega arith

pub returns : goal.returns
unfolding little_octets
returns c =
    let a = c.args in
    let h = c.put_u16-at in
    let w = c.put_u16_at in
    let e = two-units-octets a.point c.if-point-lt-TWO_UNITS_FROM.false in
    let l = laid_number 2 (low_unit a.point) (laid_over {w = little_octets 2 (high_unit a.point)} h.ensures.out_after h.ensures.value) w.ensures.value w.ensures.out_after in
    record {
      value = length_laid l ∙ sym (ap length e);
      out_after = over_laid l ∙ ap (λ (x : List ℕ). over x a.out.now) (sym e);
    }
