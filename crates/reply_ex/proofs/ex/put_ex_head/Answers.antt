use Prim.Native.Nat.{◌+◌, ◌≤◌}
use native.Mathlib.Omega.{arith}
use lib.ListN.{length}
use Rattle.answers.specs.Wire.{Sbz}
use Rattle.lent.proofs.Laws.OverAt.{laid_none, laid_number, laid_more, over_laid, length_laid}
use Rattle.reply.specs.Reply.{Reply, ex_head}
use Rattle.reply.specs.Internal.RawReply.{reply_in}
use Rattle.reply.proofs.Laws.Reply.{ex_head_length}
use Rattle.reply_ex.proofs.ex.put_ex_head.Goals as goal
use Rattle.reply_ex.proofs.ex.put_ex_head.Goals.{Start}

module _ (c : Start) where
  abbrev reply : Reply
  reply = reply_in c.args.lent.table.now c.args.lent.request.now c.args.raw.now

  room : 8 + length reply.guid ≤ length c.args.out.now
  room = omega (arith, ex_head_length reply, c.requires)

pub put_u16_at-at-requires : goal.put_u16_at-at-requires
put_u16_at-at-requires c = omega (arith, room (goal.at.put_u16_at-at-requires c).Start)

pub put_u16_at-at-requires-2 : goal.put_u16_at-at-requires-2
put_u16_at-at-requires-2 c = omega (arith, room (goal.at.put_u16_at-at-requires-2 c).Start)

pub put_u32_at-at-requires : goal.put_u32_at-at-requires
put_u32_at-at-requires c = omega (arith, room (goal.at.put_u32_at-at-requires c).Start)

pub put_stretch_at-requires : goal.put_stretch_at-requires
put_stretch_at-requires c = omega (arith, room (goal.at.put_stretch_at-requires c).Start)

pub returns : goal.returns
unfolding ex_head
returns c =
    let s = c in
    let o = c.put_u16_at-at in
    let z = c.put_u16_at-at-2 in
    let n = c.put_u32_at-at in
    let g = c.put_stretch_at in
    let l = laid_number 2 (reply (goal.at.returns s).Start).opcode (laid_none 0 s.args.out.now (omega arith)) o.ensures.value o.ensures.out_after in
    let m = laid_number 4 (reply (goal.at.returns s).Start).flags (laid_number 2 Sbz l z.ensures.value z.ensures.out_after) n.ensures.value n.ensures.out_after in
    let k = laid_more (reply (goal.at.returns s).Start).guid m g.ensures.value g.ensures.out_after in
    record {
      value = length_laid k;
      out_after = over_laid k;
    }
