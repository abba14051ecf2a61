use mathlib.Core.Path.{sym, ap}
use native.Mathlib.Omega.{arith}
use lib.ListN.{length}
use Rattle.octets.specs.Number.{little_octets}
use Rattle.unicode_text.proofs.Laws.Utf16.{one_unit_octets, two-units-octets}
use Rattle.unicode_text.proofs.utf16.point_size.Goals as goal

pub returns-then-point-lt-TWO_UNITS_FROM : goal.returns-then-point-lt-TWO_UNITS_FROM
unfolding little_octets
returns-then-point-lt-TWO_UNITS_FROM c = (sym (ap length (one_unit_octets c.args.point c.if-point-lt-TWO_UNITS_FROM.true)), omega arith)

pub returns : goal.returns
unfolding little_octets
returns c = (sym (ap length (two-units-octets c.args.point c.if-point-lt-TWO_UNITS_FROM.false)), omega arith)
