use mathlib.Core.Path.{◌≡◌, sym, ap, ◌∙◌}
use mathlib.Core.Bool.{true, false}
use mathlib.Core.List.{List, [], ◌∷◌}
use Prim.Native.Nat.{ℕ, ◌+◌, ◌≤◌}
use native.Mathlib.Nat.{add-zero}
use native.Mathlib.Omega.{arith}
use lib.ListN.{length}
use Rattle.answers.specs.Wire.{DcSockAddrSize, sin_family, sin_zero}
use Rattle.lent.specs.Internal.OverAt.{over_at}
use Rattle.lent.specs.Internal.Stretch.{octets_at}
use Rattle.lent.proofs.Laws.OverAt.{laid_none, laid_number, laid_more}
use Rattle.reply.specs.Reply.{address_if}
use Rattle.reply.proofs.Laws.Reply.{address-length}
use Rattle.reply_ex.proofs.ex.put_address_at.Goals as goal
use Rattle.reply_ex.proofs.ex.put_address_at.Goals.{Else-not-raw}

abbrev ipv4 : Else-not-raw → List ℕ
ipv4 c = octets_at c.args.lent.table.now c.args.lent.request.now c.args.raw.now.«ipv4»

asked : (c : Else-not-raw) → true ≡ c.args.raw.now.with_address
asked c = sym c.if-not-raw.false

room : (c : Else-not-raw) → c.args.at + length (ipv4 c) + 13 ≤ length c.args.out.now
room c =
    let e = ap (λ b. length (address_if b (ipv4 c))) (asked c) in
    omega (arith, address-length (ipv4 c), c.requires)

pub returns-then-not-raw : goal.returns-then-not-raw
returns-then-not-raw c =
    let a = c.args in
    let e : a.raw.now.with_address ≡ false = c.if-not-raw.true in
    rw e (record { value = sym (add-zero a.at); out_after = (laid_none a.at a.out.now (omega arith)).buffer })

pub put_octets_at-at-requires : goal.put_octets_at-at-requires
put_octets_at-at-requires c = omega (arith, room (goal.at.put_octets_at-at-requires c).Else-not-raw)

pub put_u32_at-at-requires : goal.put_u32_at-at-requires
put_u32_at-at-requires c = omega (arith, room (goal.at.put_u32_at-at-requires c).Else-not-raw)

pub put_stretch_at-at-requires : goal.put_stretch_at-at-requires
put_stretch_at-at-requires c = omega (arith, room (goal.at.put_stretch_at-at-requires c).Else-not-raw)

pub put_octets_at-requires : goal.put_octets_at-requires
put_octets_at-requires c = omega (arith, room (goal.at.put_octets_at-requires c).Else-not-raw)

pub returns : goal.returns
returns c =
    let b = c in
    let a = b.args in
    let x : List ℕ = ipv4 (goal.at.returns b).Else-not-raw in
    let s = c.put_octets_at-at in
    let n = c.put_u32_at-at in
    let i = c.put_stretch_at-at in
    let z = c.put_octets_at in
    let l = laid_more (DcSockAddrSize ∷ []) (laid_none a.at a.out.now (omega (arith, room (goal.at.returns b).Else-not-raw))) s.ensures.value s.ensures.out_after in
    let m = laid_more x (laid_number 4 sin_family l n.ensures.value n.ensures.out_after) i.ensures.value i.ensures.out_after in
    let k = laid_more sin_zero m z.ensures.value z.ensures.out_after in
    record {
      value = k.next ∙ ap (λ b. a.at + length (address_if b x)) (asked (goal.at.returns b).Else-not-raw);
      out_after = k.buffer ∙ ap (λ b. over_at a.at (address_if b x) a.out.now) (asked (goal.at.returns b).Else-not-raw);
    }
