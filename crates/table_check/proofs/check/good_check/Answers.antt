use Rattle.table_check.specs.Check.{good_check}
use Rattle.table_check.proofs.check.good_check.Goals as goal

pub returns : goal.returns
unfolding good_check
returns c =
    rw (
      c.u16_in.ensures,
      c.u16_in-2.ensures,
      c.check_of-check.ensures,
      c.part.ensures,
    )
