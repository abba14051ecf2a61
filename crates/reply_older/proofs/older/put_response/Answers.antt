use mathlib.Core.Path.{refl, sym, ap, ◌∙◌}
use mathlib.Core.List.{List}
use Prim.Native.Nat.{ℕ, ◌+◌, ◌≤◌}
use native.Mathlib.Omega.{arith}
use lib.ListN.{length, take}
use Rattle.octets.specs.Buffer.{over}
use Rattle.answers.specs.Wire.{response_version}
use Rattle.lent.proofs.Laws.OverAt.{laid_over, laid_number, laid_more, over_laid}
use Rattle.names.specs.declared.plan.PlannedName.{PlannedName}
use Rattle.names.specs.Internal.Plan.{names_octets}
use Rattle.reply.specs.Reply.{ending, Reply, response_head}
use Rattle.reply.specs.Internal.RawReply.{reply_in}
use Rattle.reply.proofs.Laws.Plan.{response-parts, response-length}
use Rattle.reply_older.proofs.older.put_response.Goals as goal
use Rattle.reply_older.proofs.older.put_response.Goals.{Start}

module _ (c : Start) where
  abbrev T : List ℕ
  T = c.args.lent.table.now

  abbrev R : List ℕ
  R = c.args.lent.request.now

  abbrev names : List PlannedName
  names = take 3 c.args.plan.now.«names»

  abbrev reply : Reply
  reply = reply_in T R c.args.raw.now

  -- what each part needs, and there is
  room : length (response_head reply) + length (names_octets T R names) + length reply.ipv4 + 12 ≤ length c.args.out.now
  room = omega (arith, response-length T R reply c.args.plan.now.«names» c.requires.response_plan, c.requires.raw_in_bounds)

pub put_response_head-at-requires : goal.put_response_head-at-requires
put_response_head-at-requires c = omega (arith, room (goal.at.put_response_head-at-requires c).Start)

pub put_names_at-at-requires : goal.put_names_at-at-requires
put_names_at-at-requires c =
    let s = c in
    record {
      all_fit = s.requires.response_plan.fit;
      names_in_bounds = omega (arith, room (goal.at.put_names_at-at-requires s).Start);
    }

pub put_stretch_at-at-requires : goal.put_stretch_at-at-requires
put_stretch_at-at-requires c = omega (arith, room (goal.at.put_stretch_at-at-requires c).Start)

pub put_u32_at-at-requires : goal.put_u32_at-at-requires
put_u32_at-at-requires c = omega (arith, room (goal.at.put_u32_at-at-requires c).Start)

pub put_ending_at-requires : goal.put_ending_at-requires
put_ending_at-requires c = omega (arith, room (goal.at.put_ending_at-requires c).Start)

pub returns : goal.returns
returns c =
    let s = c in
    let h = c.put_response_head-at in
    let n = c.put_names_at-at in
    let i = c.put_stretch_at-at in
    let f = c.put_u32_at-at in
    let l = laid_more (names_octets (T (goal.at.returns s).Start) (R (goal.at.returns s).Start) (names (goal.at.returns s).Start)) (laid_over h.ensures.out_after h.ensures.value) n.ensures.value n.ensures.out_after in
    let m = laid_more (reply (goal.at.returns s).Start).ipv4 l i.ensures.value i.ensures.out_after in
    let k = laid_number 4 (reply (goal.at.returns s).Start).flags m f.ensures.value f.ensures.out_after in
    over_laid (laid_more (ending response_version) k refl c.put_ending_at.ensures)
    ∙ ap (λ (x : List ℕ). over x s.args.out.now) (sym (response-parts (T (goal.at.returns s).Start) (R (goal.at.returns s).Start) (reply (goal.at.returns s).Start) s.args.plan.now.«names» s.requires.response_plan))
