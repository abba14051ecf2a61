use mathlib.Core.Path.{sym, ap, subst, ◌∙◌}
use native.Mathlib.Omega.{arith}
use Rattle.octets.specs.Buffer.{over}
use Rattle.answers.specs.declared.Form.{Form}
use Rattle.reply.specs.Reply.{octets_in}
use Rattle.reply.specs.Internal.RawReply.{reply_in}
use Rattle.reply.specs.Internal.Plan.{PlanOf}
use Rattle.reply_write.proofs.put.put_reply.Goals as goal

pub put_nt40-requires : goal.put_nt40-requires
put_nt40-requires c =
    let a = c.args in
    let p = subst (λ (f : Form). PlanOf a.lent.table.now a.lent.request.now f a.raw.now a.plan.now) c.in-Nt40.is c.requires.plan_of in
    omega (arith, p.whole, c.requires.length_in_bounds)

pub put_response-requires : goal.put_response-requires
put_response-requires c =
    let a = c.args in
    let p = subst (λ (f : Form). PlanOf a.lent.table.now a.lent.request.now f a.raw.now a.plan.now) c.in-Response.is c.requires.plan_of in
    record {
      response_plan = p.names;
      raw_in_bounds = omega (arith, p.whole, c.requires.length_in_bounds);
    }

pub put_ex-requires : goal.put_ex-requires
put_ex-requires c =
    let a = c.args in
    let p = subst (λ (f : Form). PlanOf a.lent.table.now a.lent.request.now f a.raw.now a.plan.now) c.in-Ex.is c.requires.plan_of in
    record {
      ex_plan = p.names;
      raw_in_bounds = omega (arith, p.whole, c.requires.length_in_bounds);
    }

pub returns-in-Nt40 : goal.returns-in-Nt40
returns-in-Nt40 c =
    let a = c.args in
    let r = reply_in a.lent.table.now a.lent.request.now a.raw.now in
    c.put_nt40.ensures ∙ ap (λ (f : Form). over (octets_in f r) a.out.now) (sym c.in-Nt40.is)

pub returns-in-Response : goal.returns-in-Response
returns-in-Response c =
    let a = c.args in
    let r = reply_in a.lent.table.now a.lent.request.now a.raw.now in
    c.put_response.ensures ∙ ap (λ (f : Form). over (octets_in f r) a.out.now) (sym c.in-Response.is)

pub returns-in-Ex : goal.returns-in-Ex
returns-in-Ex c =
    let a = c.args in
    let r = reply_in a.lent.table.now a.lent.request.now a.raw.now in
    c.put_ex.ensures ∙ ap (λ (f : Form). over (octets_in f r) a.out.now) (sym c.in-Ex.is)
