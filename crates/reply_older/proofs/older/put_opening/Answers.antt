use mathlib.Core.Path.{◌≡◌, ap, subst}
use Prim.Native.Nat.{ℕ, ◌+◌, ◌≤◌}
use native.Mathlib.Omega.{arith}
use mathlib.Core.List.{List, ◌++◌}
use Rattle.octets.specs.Number.{little_octets}
use lib.ListN.{length}
use Rattle.lent.proofs.Laws.OverAt.{Laid, laid_none, laid_number, laid_more, over_laid, length_laid}
use Rattle.lent.specs.declared.stretch.Stretch.{Stretch}
use Rattle.lent.specs.Internal.Stretch.{octets_at}
use Rattle.reply.specs.Reply.{Reply, text16, opening}
use Rattle.reply.specs.Internal.RawReply.{reply_in}
use Rattle.reply.proofs.Laws.Reply.{opening-length}
use Rattle.reply_older.proofs.older.put_opening.Goals as goal
use Rattle.reply_older.proofs.older.put_opening.Goals.{Start}

module _ (c : Start) where
  abbrev reply : Reply
  reply = reply_in c.args.lent.table.now c.args.lent.request.now c.args.raw.now

  -- a text as it is written, of its slot
  abbrev text : Stretch → List ℕ
  text slot = text16 (octets_at c.args.lent.table.now c.args.lent.request.now slot)

  abbrev size : Stretch → ℕ
  size slot = length (text slot)

  room : 2 + length (text16 reply.server) + length (text16 reply.user) + length (text16 reply.netbios) ≤ length c.args.out.now
  room = omega (arith, opening-length reply, c.requires)

pub put_u16_at-at-requires : goal.put_u16_at-at-requires
put_u16_at-at-requires c = omega (arith, room (goal.at.put_u16_at-at-requires c).Start)

pub put_text_at-at-requires : goal.put_text_at-at-requires
put_text_at-at-requires c = let b = (goal.at.put_text_at-at-requires c).Start in omega (arith, room b, ap (size b) c.text.ensures)

pub put_text_at-at-requires-2 : goal.put_text_at-at-requires-2
put_text_at-at-requires-2 c = let b = (goal.at.put_text_at-at-requires-2 c).Start in omega (arith, room b, ap (size b) c.text.ensures, ap (size b) c.text-2.ensures)

pub put_text_at-requires : goal.put_text_at-requires
put_text_at-requires c = let b = (goal.at.put_text_at-requires c).Start in omega (arith, room b, ap (size b) c.text.ensures, ap (size b) c.text-2.ensures, ap (size b) c.text-3.ensures)

pub returns : goal.returns
unfolding opening
returns c =
    let b = (goal.at.returns c).Start in
    let r = reply b in
    let o = c.put_u16_at-at in
    let s = c.put_text_at-at in
    let u = c.put_text_at-at-2 in
    let n = c.put_text_at in
    let l = laid_number 2 r.opcode (laid_none 0 b.args.out.now (omega arith)) o.ensures.value o.ensures.out_after in
    let m = laid_more (text b c.text-2.result) (laid_more (text b c.text.result) l s.ensures.value s.ensures.out_after) u.ensures.value u.ensures.out_after in
    let k = laid_more (text b c.text-3.result) m n.ensures.value n.ensures.out_after in
    let e : little_octets 2 r.opcode ++ text b c.text.result ++ text b c.text-2.result ++ text b c.text-3.result ≡ opening r =
    λ i. little_octets 2 r.opcode ++ text b (c.text.ensures i) ++ text b (c.text-2.ensures i) ++ text b (c.text-3.ensures i) in
    let w = subst (λ (x : List ℕ). Laid 0 b.args.out.now x n.new.out n.result) e k in
    record {
      value = length_laid w;
      out_after = over_laid w;
    }
