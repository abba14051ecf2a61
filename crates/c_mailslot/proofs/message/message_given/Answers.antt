use native.Mathlib.Omega.{arith}
use Rattle.c_mailslot.proofs.Laws.Wide.{wide_repeat, wide_bits, wide_version}
use Rattle.c_mailslot.proofs.message.message_given.Goals as goal

pub returns-in_default : goal.returns-in_default
returns-in_default c = λ source. wide_repeat c.args.members.now source (omega (arith, c.in_default.ensures))

pub returns-in_default-try_from : goal.returns-in_default-try_from
returns-in_default-try_from c = λ source. wide_bits c.args.members.now source (omega (arith, c.in_default-try_from.ensures))

pub returns-in_default-try_from-2 : goal.returns-in_default-try_from-2
returns-in_default-try_from-2 c = λ source. wide_version c.args.members.now source (omega (arith, c.in_default-try_from-2.ensures))
