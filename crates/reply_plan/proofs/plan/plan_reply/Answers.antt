use mathlib.Core.Path.{sym, subst}
use Rattle.answers.specs.declared.Form.{Form}
use Rattle.reply.specs.Internal.Plan.{PlanOf}
use Rattle.reply_plan.proofs.plan.plan_reply.Goals as goal

pub returns-in-Nt40 : goal.returns-in-Nt40
returns-in-Nt40 c =
    let a = c.args in
    subst (λ (f : Form). PlanOf a.lent.table.now a.lent.request.now f a.raw.now c.plan_nt40.result) (sym c.in-Nt40.is) c.plan_nt40.ensures

pub returns-in-Response : goal.returns-in-Response
returns-in-Response c =
    let a = c.args in
    subst (λ (f : Form). PlanOf a.lent.table.now a.lent.request.now f a.raw.now c.plan_response.result) (sym c.in-Response.is) c.plan_response.ensures

pub returns-in-Ex : goal.returns-in-Ex
returns-in-Ex c =
    let a = c.args in
    subst (λ (f : Form). PlanOf a.lent.table.now a.lent.request.now f a.raw.now c.plan_ex.result) (sym c.in-Ex.is) c.plan_ex.ensures
