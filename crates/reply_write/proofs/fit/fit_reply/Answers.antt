use mathlib.Core.Path.{refl, sym}
use native.Mathlib.Omega.{arith}
use Rattle.octets.proofs.Laws.Buffer.{over_none}
use Rattle.reply_write.proofs.fit.fit_reply.Goals as goal

pub returns-then-out-length : goal.returns-then-out-length
returns-then-out-length c =
    let p = c.plan_reply-plan.ensures.whole in
    record {
      fitted_to = (omega (arith, p, c.if-out-length.true), refl);
      out_after = sym (over_none _);
    }

pub returns : goal.returns
returns c =
    let p = c.plan_reply-plan.ensures.whole in
    record {
      fitted_to = (p, omega (arith, p, c.if-out-length.false));
      out_after = c.put_reply.ensures;
    }
