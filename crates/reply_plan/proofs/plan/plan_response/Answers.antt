use mathlib.Core.Path.{◌≡◌, sym, ap, ◌∙◌}
use mathlib.Core.List.{List, []}
use Prim.Native.Nat.{ℕ, ◌+◌, ◌≤◌}
use native.Mathlib.Omega.{arith}
use lib.ListN.{length}
use Rattle.names.specs.Name.{write_names}
use Rattle.reply.specs.Reply.{Reply, response_head}
use Rattle.reply.specs.Internal.RawReply.{reply_in}
use Rattle.reply.specs.Internal.Plan.{ResponsePlan}
use Rattle.reply.proofs.Laws.Reply.{response_head_length}
use Rattle.reply.proofs.Laws.Plan.{response-length}
use Rattle.reply_plan.proofs.Laws.Slots.{texts_from, first_planned}
use Rattle.reply_plan.proofs.plan.plan_response.Goals as goal

pub plan_names-planned-requires : goal.plan_names-planned-requires
plan_names-planned-requires c = (omega (arith, c.first.ensures.1), omega arith)

pub returns : goal.returns
returns c =
    let a = c.args in
    let T : List ℕ = a.lent.table.now in
    let R : List ℕ = a.lent.request.now in
    let r : Reply = reply_in T R a.raw.now in
    let o = c.opening_size in
    let g = c.stretch_size in
    let n = c.plan_names-planned in
    let head : ℕ = o.result + g.result + 16 in
    let e : head ≡ length (response_head r) = omega (arith, response_head_length r, o.ensures, g.ensures) in
    let f = first_planned T R a.raw.now.«slots» 3 head n.result c.first.result.now c.first.ensures n.ensures in
    let p : ResponsePlan T R r n.result.«names» = record { fit = f.fit; writes = ap (λ (k : ℕ). write_names [] k (texts_from T R a.raw.now.«slots» 0 3)) (sym e) ∙ f.writes } in
    record {
      names = p;
      whole = omega (arith, response-length T R r n.result.«names» p, f.ends, c.stretch_size-2.ensures);
    }
