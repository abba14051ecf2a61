use native.Mathlib.Omega.{arith}
use Rattle.reply.specs.Internal.RawReply.{reply_in}
use Rattle.reply.proofs.Laws.Reply.{nt40-length}
use Rattle.reply_plan.proofs.plan.plan_nt40.Goals as goal

pub returns : goal.returns
returns c =
    let a = c.args in
    record { names = tt; whole = omega (arith, nt40-length (reply_in a.lent.table.now a.lent.request.now a.raw.now)) }
