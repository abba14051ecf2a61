use mathlib.Core.Path.{◌≡◌, sym, ap, subst, ◌∙◌}
use mathlib.Core.List.{List, []}
use Prim.Native.Nat.{ℕ, ◌+◌, ◌≤◌}
use native.Mathlib.Omega.{arith}
use lib.ListN.{length, length-append}
use Rattle.lent.specs.declared.stretch.Stretch.{Stretch}
use Rattle.lent.specs.Internal.Stretch.{octets_at}
use Rattle.names.specs.declared.plan.PlannedName.{PlannedName}
use Rattle.names.specs.Name.{write_names}
use Rattle.names.specs.Internal.Plan.{AllFit, names_octets, writings_of}
use Rattle.reply.specs.Reply.{Reply, ex_head}
use Rattle.reply.specs.Internal.RawReply.{text_if, reply_in}
use Rattle.reply.specs.Internal.Plan.{ex_front, NextPlan, ExPlan}
use Rattle.reply.proofs.Laws.Reply.{ex_head_length}
use Rattle.reply.proofs.Laws.Plan.{front_parts, ex-length}
use Rattle.reply_plan.proofs.Laws.Slots.{texts_from, FirstPlanned, first_planned}
use Rattle.reply_plan.proofs.plan.plan_ex.Goals as goal
use Rattle.reply_plan.proofs.plan.plan_ex.Goals.{After-plan_names-planned}

-- the eight names
eight : (c : After-plan_names-planned) → FirstPlanned c.args.lent.table.now c.args.lent.request.now c.args.raw.now.«slots» 8 (8 + c.stretch_size-head.result) c.plan_names-planned.result
eight c =
    let a = c.args in
    first_planned a.lent.table.now a.lent.request.now a.raw.now.«slots» 8 (8 + c.stretch_size-head.result) c.plan_names-planned.result c.first.result.now c.first.ensures c.plan_names-planned.ensures

pub plan_names-planned-requires : goal.plan_names-planned-requires
plan_names-planned-requires c = (omega (arith, c.first.ensures.1), omega arith)

pub plan_last-requires : goal.plan_last-requires
plan_last-requires c =
    let f = eight (goal.at.plan_last-requires c).After-plan_names-planned in
    (f.fit, omega (arith, f.small, c.address_size.ensures.1, c.stretch_size-head.ensures.1))

pub returns : goal.returns
returns c =
    let a = c.args in
    let T : List ℕ = a.lent.table.now in
    let R : List ℕ = a.lent.request.now in
    let r : Reply = reply_in T R a.raw.now in
    let g = c.stretch_size-head in
    let n = c.plan_names-planned in
    let i = c.address_size in
    let q = c.plan_last in
    let f = eight (goal.at.returns c).After-plan_names-planned in
    let head : ℕ = 8 + g.result in
    let e : head ≡ length (ex_head r) = omega (arith, ex_head_length r, g.ensures) in
    let w = ap (λ (k : ℕ). write_names [] k (texts_from T R a.raw.now.«slots» 0 8)) (sym e) ∙ f.writes in
    let front : ℕ = n.result.«end» + i.result in
    let at : front ≡ length (ex_front r) = omega (arith, simp length-append at (ap length (front_parts T R r n.result.«names» w)), f.ends, i.ensures) in
    let next = subst (λ (s : Stretch). NextPlan T R (text_if a.raw.now.with_next_site (octets_at T R s)) q.result.«names» front) c.text.ensures q.ensures.next in
    let p : ExPlan T R r q.result.«names» =
    record {
      fit = subst (AllFit T R) (sym q.ensures.before) f.fit;
      writes = w ∙ ap (writings_of T R) (sym q.ensures.before);
      next = subst (NextPlan T R r.next_site_lem q.result.«names») at next;
    } in
    let o = ap (λ (ns : List PlannedName). length (names_octets T R ns)) q.ensures.before in
    record {
      names = p;
      whole = omega (arith, ex-length T R a.raw.now q.result.«names» p, q.ensures.whole, f.ends, i.ensures);
    }
