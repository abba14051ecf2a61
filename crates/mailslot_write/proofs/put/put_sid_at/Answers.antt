use borrow.Author.Rules.{rules}
use mathlib.Core.Path.{sym, ap, ◌∙◌}
use mathlib.Core.List.{List}
use Prim.Native.Nat.{ℕ, ◌+◌, ◌≤◌}
use native.Mathlib.Omega.{arith}
use lib.ListN.{length}
use Rattle.lent.specs.Internal.OverAt.{over_at}
use Rattle.lent.proofs.Laws.OverAt.{laid_none, laid_more}
use Rattle.mailslot.specs.Internal.Shape.{sid_padding}
use Rattle.mailslot_write.proofs.Laws.Put.{laid_zeros}
use Rattle.mailslot_write.proofs.Laws.Size.{padded-sid, padded-length}
use Rattle.mailslot_write.proofs.put.put_sid_at.Goals as goal
use Rattle.mailslot_write.proofs.put.put_sid_at.Goals.{Start}

module _ (c : Start) where
  abbrev sid : List ℕ
  sid = c.args.sid.now

  abbrev gap : ℕ
  gap = sid_padding (length sid) c.args.at

  room : c.args.at + gap + length sid ≤ length c.args.out.now
  room = omega (arith, padded-length c.args.at sid, c.requires.1)

pub put_zeros_at-at-requires : goal.put_zeros_at-at-requires
put_zeros_at-at-requires c =
    let s = c in
    (c.sid_padding.ensures.1, omega (arith, room (goal.at.put_zeros_at-at-requires s).Start, c.sid_padding.ensures.0))

pub put_octets_at-requires : goal.put_octets_at-requires
put_octets_at-requires c = omega (arith, room (goal.at.put_octets_at-requires c).Start, c.put_zeros_at-at.ensures.value, c.sid_padding.ensures.0)

pub returns : goal.returns
returns c =
    let s = c in
    let a = s.args in
    let z = c.put_zeros_at-at in
    let o = c.put_octets_at in
    let l = laid_zeros (gap (goal.at.returns s).Start) c.sid_padding.ensures.0 (laid_none a.at a.out.now (omega arith)) z.ensures.value z.ensures.out_after in
    let m = laid_more (sid (goal.at.returns s).Start) l o.ensures.value o.ensures.out_after in
    let e = sym (padded-sid a.at (sid (goal.at.returns s).Start)) in
    record {
      value = m.next ∙ ap (λ (x : List ℕ). a.at + length x) e;
      out_after = m.buffer ∙ ap (λ (x : List ℕ). over_at a.at x a.out.now) e;
    }
