use native.Mathlib.Omega.{arith}
use Rattle.choose.proofs.flags.secret_flags.Goals as goal

pub returns : goal.returns
returns c = (rw (c.flag_if.ensures.0, c.flag_if-2.ensures.0, c.flag_if-3.ensures.0, c.has_bits-read_only.ensures, c.has_bits-later.ensures), omega arith)
