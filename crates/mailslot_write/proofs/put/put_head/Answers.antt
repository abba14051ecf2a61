use borrow.Author.Rules.{rules}
use mathlib.Core.Path.{◌≡◌, ap, ◌∙◌}
use mathlib.Core.List.{List, [], ◌∷◌}
use Prim.Native.Nat.{ℕ, ◌+◌, ◌≤◌}
use native.Mathlib.Omega.{arith}
use lib.ListN.{length}
use Rattle.answers.specs.Wire.{logon_sam_logon_request}
use Rattle.octets.specs.Number.{little_octets}
use Rattle.lent.specs.Internal.OverAt.{over_at}
use Rattle.lent.proofs.Laws.OverAt.{laid_none, laid_number, over_laid, length_laid}
use Rattle.octets.specs.Stretch.{stretch_of}
use Rattle.reply.specs.Reply.{u16}
use Rattle.mailslot.specs.Message.{message_head}
use Rattle.mailslot_write.proofs.Laws.Put.{laid_two}
use Rattle.mailslot_write.proofs.Laws.Size.{head_length, message_length}
use Rattle.mailslot_write.proofs.put.put_head.Goals as goal
use Rattle.mailslot_write.proofs.put.put_head.Goals.{Start}

module _ (c : Start) where
  abbrev computer : List ℕ
  computer = stretch_of c.args.source.now c.args.message.computer

  abbrev user : List ℕ
  user = stretch_of c.args.source.now c.args.message.user

  abbrev name : List ℕ
  name = stretch_of c.args.source.now c.args.message.mailslot

  abbrev sid : List ℕ
  sid = stretch_of c.args.source.now c.args.message.sid

  room : 17 + length computer + length user + length name ≤ length c.args.out.now
  room = omega (arith, head_length c.args.source.now c.args.message, c.requires.message_in_bounds)

pub put_u16_at-at-requires : goal.put_u16_at-at-requires
put_u16_at-at-requires c = omega (arith, room (goal.at.put_u16_at-at-requires c).Start)

pub put_u16_at-at-requires-2 : goal.put_u16_at-at-requires-2
put_u16_at-at-requires-2 c = omega (arith, room (goal.at.put_u16_at-at-requires-2 c).Start)

pub put_ended_at-at-requires : goal.put_ended_at-at-requires
put_ended_at-at-requires c = (omega arith, omega (arith, room (goal.at.put_ended_at-at-requires c).Start))

pub put_ended_at-at-requires-2 : goal.put_ended_at-at-requires-2
put_ended_at-at-requires-2 c = (omega arith, omega (arith, room (goal.at.put_ended_at-at-requires-2 c).Start))

pub put_ended_at-at-requires-3 : goal.put_ended_at-at-requires-3
put_ended_at-at-requires-3 c = (omega arith, omega (arith, room (goal.at.put_ended_at-at-requires-3 c).Start))

pub put_u32_at-at-requires : goal.put_u32_at-at-requires
put_u32_at-at-requires c = omega (arith, room (goal.at.put_u32_at-at-requires c).Start)

pub overflow_cast-of : goal.overflow_cast-of
overflow_cast-of c =
    let s = c in
    omega (arith, ap length c.of.ensures, message_length s.args.source.now s.args.message, s.requires.message_len_bound)

pub put_u32_at-requires : goal.put_u32_at-requires
put_u32_at-requires c = omega (arith, room (goal.at.put_u32_at-requires c).Start)

pub returns : goal.returns
unfolding message_head little_octets
returns c =
    let s = c in
    let a = s.args in
    let o = c.put_u16_at-at in
    let r = c.put_u16_at-at-2 in
    let x = c.put_ended_at-at in
    let y = c.put_ended_at-at-2 in
    let z = c.put_ended_at-at-3 in
    let b = c.put_u32_at-at in
    let n : length c.of.result.now ≡ length (sid (goal.at.returns s).Start) = ap length c.of.ensures in
    let v = c.put_u32_at in
    let l = laid_number 2 logon_sam_logon_request (laid_none 0 a.out.now (omega arith)) o.ensures.value o.ensures.out_after in
    let m = laid_number 2 a.message.repeat l r.ensures.value r.ensures.out_after in
    let q = laid_two (user (goal.at.returns s).Start) (u16 0) (laid_two (computer (goal.at.returns s).Start) (u16 0) m x.ensures.value x.ensures.out_after) y.ensures.value y.ensures.out_after in
    let k = laid_number 4 a.message.bits (laid_two (name (goal.at.returns s).Start) (0 ∷ []) q z.ensures.value z.ensures.out_after) b.ensures.value b.ensures.out_after in
    let f = laid_number 4 (length (sid (goal.at.returns s).Start)) k v.ensures.value (v.ensures.out_after ∙ ap (λ (i : ℕ). over_at b.result (little_octets 4 i) b.new.out) n) in
    record {
      value = length_laid f;
      out_after = over_laid f;
    }
