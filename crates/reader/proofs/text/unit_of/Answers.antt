use mathlib.Core.Path.{sym}
use native.Mathlib.Omega.{arith}
use Rattle.reader.proofs.Laws.Text.{zero_unit, plain_unit, high_unit_lem, low_unit_lem}
use Rattle.reader.proofs.text.unit_of.Goals as goal

pub returns-then-unit-eq0 : goal.returns-then-unit-eq0
returns-then-unit-eq0 c = sym (zero_unit c.args.unit c.if-unit-eq0.true)

pub returns-then-unit-lt-FIRST_HIGH : goal.returns-then-unit-lt-FIRST_HIGH
returns-then-unit-lt-FIRST_HIGH c = sym (plain_unit c.args.unit (omega arith) (λ h. omega arith))

pub returns-then-unit-lt-FIRST_LOW : goal.returns-then-unit-lt-FIRST_LOW
returns-then-unit-lt-FIRST_LOW c = sym (high_unit_lem c.args.unit (omega arith) (omega arith))

pub returns-then-unit-lt-AFTER_LOW : goal.returns-then-unit-lt-AFTER_LOW
returns-then-unit-lt-AFTER_LOW c = sym (low_unit_lem c.args.unit (omega arith) (omega arith))

pub returns : goal.returns
returns c = sym (plain_unit c.args.unit (omega arith) (λ h. omega arith))
