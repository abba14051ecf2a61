use Prim.Native.Nat.{◌+◌}
use native.Mathlib.Omega.{arith}
use Rattle.unicode_text.proofs.Laws.Point.{six-at, lead-between, two-bad, two-point, coded_bad, coded_point}
use borrow.Author.Rules.{rules}
use Rattle.unicode_text.proofs.utf8.point_of_two.Goals as goal

pub returns-then-lead-lt194 : goal.returns-then-lead-lt194
returns-then-lead-lt194 c =
    record {
      code_of = λ h s at p. coded_bad s at 2 (lead-between s at _ p.0 p.1 h c.if-lead-lt194.true);
      le_lead = λ h. absurd (omega (arith, h));
    }

pub returns-then-y-gt63 : goal.returns-then-y-gt63
returns-then-y-gt63 c =
    let y = c.six_bits-y in
    record {
      code_of = λ h s at p. coded_bad s at 2 (two-bad s at _ y.result (p.0, p.1, c.if-lead-lt194.false, c.requires) (six-at s (at + 1) _ 0x80 0xBF _ p.2 (omega arith) y.ensures) c.if-y-gt63.true);
      le_lead = λ h. absurd (omega (arith, h));
    }

pub returns : goal.returns
returns c =
    let y = c.six_bits-y in
    let least = c.if-lead-lt194.false in
    let good = c.if-y-gt63.false in
    record {
      code_of = λ h s at p.
          coded_point s at 2 _
          (two-point s at _ y.result (p.0, p.1, least, c.requires) (six-at s (at + 1) _ 0x80 0xBF _ p.2 (omega arith) y.ensures) _ (rw (c.wide.ensures.0, c.wide-2.ensures.0)) good);
      le_lead = λ h. omega (arith, least);
    }
