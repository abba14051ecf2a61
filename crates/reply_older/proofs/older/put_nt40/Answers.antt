use mathlib.Core.Path.{refl}
use Prim.Native.Nat.{◌+◌, ◌≤◌}
use native.Mathlib.Omega.{arith}
use lib.ListN.{length}
use Rattle.answers.specs.Wire.{nt40_version}
use Rattle.lent.proofs.Laws.OverAt.{laid_over, laid_more, over_laid}
use Rattle.reply.specs.Reply.{Reply, ending, opening, nt40_octets}
use Rattle.reply.specs.Internal.RawReply.{reply_in}
use Rattle.reply.proofs.Laws.Reply.{nt40-length}
use Rattle.reply_older.proofs.older.put_nt40.Goals as goal
use Rattle.reply_older.proofs.older.put_nt40.Goals.{Start}

module _ (c : Start) where
  abbrev reply : Reply
  reply = reply_in c.args.lent.table.now c.args.lent.request.now c.args.raw.now

  room : length (opening reply) + 8 ≤ length c.args.out.now
  room = omega (arith, nt40-length reply, c.requires)

pub put_opening-at-requires : goal.put_opening-at-requires
put_opening-at-requires c = omega (arith, room (goal.at.put_opening-at-requires c).Start)

pub put_ending_at-requires : goal.put_ending_at-requires
put_ending_at-requires c = omega (arith, room (goal.at.put_ending_at-requires c).Start)

pub returns : goal.returns
unfolding nt40_octets
returns c =
    let o = c.put_opening-at in
    let l = laid_more (ending nt40_version) (laid_over o.ensures.out_after o.ensures.value) refl c.put_ending_at.ensures in
    over_laid l
