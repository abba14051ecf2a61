use Prim.Native.Nat.{◌+◌, ◌≤◌}
use native.Mathlib.Omega.{arith}
use lib.ListN.{length}
use Rattle.answers.specs.Wire.{NullGuid}
use Rattle.lent.proofs.Laws.OverAt.{laid_over, laid_more, over_laid, length_laid}
use Rattle.reply.specs.Reply.{Reply, opening, response_head}
use Rattle.reply.specs.Internal.RawReply.{reply_in}
use Rattle.reply.proofs.Laws.Reply.{response_head_length}
use Rattle.reply_older.proofs.older.put_response_head.Goals as goal
use Rattle.reply_older.proofs.older.put_response_head.Goals.{Start}

module _ (c : Start) where
  abbrev reply : Reply
  reply = reply_in c.args.lent.table.now c.args.lent.request.now c.args.raw.now

  room : length (opening reply) + length reply.guid + 16 ≤ length c.args.out.now
  room = omega (arith, response_head_length reply, c.requires)

pub put_opening-at-requires : goal.put_opening-at-requires
put_opening-at-requires c = omega (arith, room (goal.at.put_opening-at-requires c).Start)

pub put_stretch_at-at-requires : goal.put_stretch_at-at-requires
put_stretch_at-at-requires c = omega (arith, room (goal.at.put_stretch_at-at-requires c).Start)

pub put_octets_at-requires : goal.put_octets_at-requires
put_octets_at-requires c = omega (arith, room (goal.at.put_octets_at-requires c).Start)

pub returns : goal.returns
unfolding response_head
returns c =
    let r = reply (goal.at.returns c).Start in
    let o = c.put_opening-at in
    let g = c.put_stretch_at-at in
    let z = c.put_octets_at in
    let l = laid_more r.guid (laid_over o.ensures.out_after o.ensures.value) g.ensures.value g.ensures.out_after in
    let m = laid_more NullGuid l z.ensures.value z.ensures.out_after in
    record {
      value = length_laid m;
      out_after = over_laid m;
    }
