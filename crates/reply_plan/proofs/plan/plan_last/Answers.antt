use mathlib.Core.Path.{◌≡◌, sym, subst, ◌∙◌}
use mathlib.Core.Bool.{true, false}
use mathlib.Core.List.{List}
use Prim.Native.Nat.{ℕ, ◌+◌, ◌<◌}
use native.Mathlib.Omega.{arith}
use lib.ListN.{length, set}
use Rattle.names.specs.Internal.Plan.{name_octets}
use Rattle.names.proofs.Laws.Plan.{name-length, literal_short}
use Rattle.reply.specs.declared.plan.Plan.{Plan}
use Rattle.reply_plan.specs.Internal.LastPlan.{LastPlan}
use Rattle.reply_plan.proofs.Laws.LastPlan.{last_none, last_planned}
use Rattle.reply_plan.proofs.plan.plan_last.Goals as goal
use Rattle.reply_plan.proofs.plan.plan_last.Goals.{After-size}

taken : (c : After-size) → c.size.result ≡ length (name_octets c.args.lent.table.now c.args.lent.request.now c.plan_name-name.result)
taken c =
    let a = c.args in
    c.size.ensures ∙ sym (name-length a.lent.table.now a.lent.request.now c.plan_name-name.result c.plan_name-name.ensures.fit)

pub returns-then-not-with_next_site : goal.returns-then-not-with_next_site
returns-then-not-with_next_site c =
    let a = c.args in
    let T : List ℕ = a.lent.table.now in
    let R : List ℕ = a.lent.request.now in
    let e : false ≡ a.with_next_site = sym c.if-not-with_next_site.true in
    let r : Plan = record { «names» = a.names; «length» = a.front + 8 } in
    subst (λ b. LastPlan T R a.names b a.next_site a.front r) e (last_none T R a.names a.next_site a.front)

pub size-requires : goal.size-requires
size-requires c = literal_short c.args.lent.table.now c.args.lent.request.now c.plan_name-name.result c.plan_name-name.ensures.fit

pub overflow_add-result-2 : goal.overflow_add-result-2
overflow_add-result-2 c = omega (arith, taken (goal.at.overflow_add-result-2 c).After-size, c.plan_name-name.ensures.small)

pub overflow_add-result-3 : goal.overflow_add-result-3
overflow_add-result-3 c = omega (arith, taken (goal.at.overflow_add-result-3 c).After-size, c.plan_name-name.ensures.small)

pub returns : goal.returns
returns c =
    let a = c.args in
    let T : List ℕ = a.lent.table.now in
    let R : List ℕ = a.lent.request.now in
    let n = c.plan_name-name in
    let e : true ≡ a.with_next_site = sym c.if-not-with_next_site.false in
    let r : Plan = record { «names» = set a.names 8 n.result; «length» = a.front + c.size.result + 8 } in
    let l : 8 < length a.names = omega arith in
    subst (λ b. LastPlan T R a.names b a.next_site a.front r) e
    (last_planned T R a.names a.next_site a.front n.result c.size.result l n.ensures (taken (goal.at.returns c).After-size))
