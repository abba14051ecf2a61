use native.Mathlib.Omega.{arith}
use Rattle.choose.proofs.flags.service_flags.Goals as goal

pub returns : goal.returns
returns c = (
  rw (
    c.flag_if.ensures.0,
    c.flag_if-2.ensures.0,
    c.flag_if-3.ensures.0,
    c.flag_if-4.ensures.0,
    c.flag_if-5.ensures.0,
    c.has_bits.ensures,
    c.has_bits-2.ensures,
    c.has_bits-3.ensures,
    c.has_bits-4.ensures,
    c.has_bits-5.ensures,
  ),
  omega arith,
)
