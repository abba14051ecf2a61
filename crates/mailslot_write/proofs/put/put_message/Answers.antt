use borrow.Author.Rules.{rules}
use mathlib.Core.Path.{◌≡◌, refl, ap, ap₂}
use mathlib.Core.List.{List}
use Prim.Native.Nat.{ℕ, ◌+◌, ◌≤◌}
use native.Mathlib.Omega.{arith}
use lib.ListN.{length}
use Rattle.lent.proofs.Laws.OverAt.{laid_over, laid_more, over_laid}
use Rattle.octets.specs.Stretch.{stretch_of}
use Rattle.reply.specs.Reply.{ending}
use Rattle.mailslot.specs.Message.{message_head, message_octets, padded_sid}
use Rattle.mailslot_write.proofs.Laws.Put.{laid_as}
use Rattle.mailslot_write.proofs.Laws.Size.{message_parts, message_length}
use Rattle.mailslot_write.proofs.put.put_message.Goals as goal
use Rattle.mailslot_write.proofs.put.put_message.Goals.{After-of, Start}

module _ (c : Start) where
  abbrev head : List ℕ
  head = message_head c.args.source.now c.args.message

  abbrev padded : List ℕ
  padded = padded_sid (length head) (stretch_of c.args.source.now c.args.message.sid)

  room : length head + length padded + 8 ≤ length c.args.out.now
  room = omega (arith, message_parts c.args.source.now c.args.message, c.requires.message_in_bounds)

-- the SID that is written, at the offset where it is
module _ (c : After-of) where
  padded-is : padded_sid c.put_head-at.result c.of.result.now ≡ padded_sid (length (message_head c.args.source.now c.args.message)) (stretch_of c.args.source.now c.args.message.sid)
  padded-is = ap₂ padded_sid c.put_head-at.ensures.value c.of.ensures

pub put_head-at-requires : goal.put_head-at-requires
put_head-at-requires c =
    let s = c in
    record {
      message_len_bound = s.requires.message_len_bound;
      message_in_bounds = omega (arith, room (goal.at.put_head-at-requires s).Start);
    }

pub put_sid_at-at-requires : goal.put_sid_at-at-requires
put_sid_at-at-requires c =
    let s = c in
    let n = ap length c.of.ensures in (
      omega (arith, message_length s.args.source.now s.args.message, s.requires.message_len_bound),
      omega (arith, room (goal.at.put_sid_at-at-requires s).Start, c.put_head-at.ensures.value, ap length (padded-is (goal.at.put_sid_at-at-requires c).After-of)),
    )

pub put_ending_at-requires : goal.put_ending_at-requires
put_ending_at-requires c =
    omega (arith, room (goal.at.put_ending_at-requires c).Start, c.put_head-at.ensures.value, c.put_sid_at-at.ensures.value, ap length (padded-is (goal.at.put_ending_at-requires c).After-of))

pub returns : goal.returns
unfolding message_octets
returns c =
    let s = c in
    let h = c.put_head-at in
    let d = c.put_sid_at-at in
    let l = laid_as (padded (goal.at.returns s).Start) (padded-is (goal.at.returns c).After-of) (laid_over h.ensures.out_after h.ensures.value) d.ensures.value d.ensures.out_after in
    over_laid (laid_more (ending s.args.message.version) l refl c.put_ending_at.ensures)
