use mathlib.Core.Path.{refl, sym, ap, ◌∙◌}
use mathlib.Core.List.{List}
use Prim.Native.Nat.{ℕ, ◌+◌, ◌≤◌}
use native.Mathlib.Omega.{arith}
use lib.ListN.{length, take}
use Rattle.octets.specs.Buffer.{over}
use Rattle.lent.proofs.Laws.OverAt.{laid_over, laid_more, over_laid}
use Rattle.names.specs.declared.plan.PlannedName.{PlannedName}
use Rattle.names.specs.Internal.Plan.{names_octets}
use Rattle.reply.specs.Reply.{Reply, ex_head, address_if}
use Rattle.reply.specs.Internal.RawReply.{slot_text, reply_in}
use Rattle.reply.specs.Internal.Plan.{ex_front, last_name, last_octets}
use Rattle.reply.proofs.Laws.Plan.{last_fits, ex-parts, ex-length}
use Rattle.reply_ex.proofs.ex.put_ex.Goals as goal
use Rattle.reply_ex.proofs.ex.put_ex.Goals.{Start}

module _ (c : Start) where
  abbrev T : List ℕ
  T = c.args.lent.table.now

  abbrev R : List ℕ
  R = c.args.lent.request.now

  abbrev names : List PlannedName
  names = c.args.plan.now.«names»

  abbrev reply : Reply
  reply = reply_in T R c.args.raw.now

  abbrev address : List ℕ
  address = address_if reply.with_address_lem reply.ipv4

  abbrev last : List ℕ
  last = last_octets T R c.args.raw.now.with_next_site (last_name names)

  -- what each part needs, and there is
  room : length (ex_head reply) + length (names_octets T R (take 8 names)) + length address + length last ≤ length c.args.out.now
  room = omega (arith, ex-length T R c.args.raw.now names c.requires.ex_plan, c.requires.raw_in_bounds)

pub put_ex_head-at-requires : goal.put_ex_head-at-requires
put_ex_head-at-requires c = omega (arith, room (goal.at.put_ex_head-at-requires c).Start)

pub put_names_at-at-requires : goal.put_names_at-at-requires
put_names_at-at-requires c =
    let s = c in
    record {
      all_fit = s.requires.ex_plan.fit;
      names_in_bounds = omega (arith, room (goal.at.put_names_at-at-requires s).Start);
    }

pub put_address_at-at-requires : goal.put_address_at-at-requires
put_address_at-at-requires c = omega (arith, room (goal.at.put_address_at-at-requires c).Start)

pub put_last_at-requires : goal.put_last_at-requires
put_last_at-requires c =
    let s = c in
    let text : List ℕ = slot_text (T (goal.at.put_last_at-requires s).Start) (R (goal.at.put_last_at-requires s).Start) s.args.raw.now.«slots» 8 in
    record {
      last_fits = last_fits (T (goal.at.put_last_at-requires s).Start) (R (goal.at.put_last_at-requires s).Start) (names (goal.at.put_last_at-requires s).Start) (length (ex_front (reply (goal.at.put_last_at-requires s).Start))) s.args.raw.now.with_next_site text s.requires.ex_plan.next;
      names_in_bounds = omega (arith, room (goal.at.put_last_at-requires s).Start);
    }

pub returns : goal.returns
returns c =
    let s = c in
    let h = c.put_ex_head-at in
    let n = c.put_names_at-at in
    let i = c.put_address_at-at in
    let l = laid_more (names_octets (T (goal.at.returns s).Start) (R (goal.at.returns s).Start) (take 8 (names (goal.at.returns s).Start))) (laid_over h.ensures.out_after h.ensures.value) n.ensures.value n.ensures.out_after in
    let m = laid_more (address (goal.at.returns s).Start) l i.ensures.value i.ensures.out_after in
    over_laid (laid_more (last (goal.at.returns s).Start) m refl c.put_last_at.ensures)
    ∙ ap (λ (x : List ℕ). over x s.args.out.now) (sym (ex-parts (T (goal.at.returns s).Start) (R (goal.at.returns s).Start) s.args.raw.now (names (goal.at.returns s).Start) s.requires.ex_plan))
