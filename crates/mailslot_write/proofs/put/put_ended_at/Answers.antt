use borrow.Author.Rules.{rules}
use mathlib.Core.Path.{refl, ap, ◌∙◌}
use Prim.Native.Nat.{ℕ, ◌+◌}
use native.Mathlib.Omega.{arith}
use lib.ListN.{length}
use Rattle.lent.proofs.Laws.OverAt.{laid_none}
use Rattle.octets.specs.Stretch.{stretch_of}
use Rattle.mailslot_write.proofs.Laws.Put.{laid_as, laid_zeros}
use Rattle.mailslot_write.proofs.put.put_ended_at.Goals as goal

pub put_octets_at-at-requires : goal.put_octets_at-at-requires
put_octets_at-at-requires c = omega (arith, ap length c.of.ensures, c.requires.1)

pub put_zeros_at-requires : goal.put_zeros_at-requires
put_zeros_at-requires c =
    let s = c in
    let w = c.put_octets_at-at in
    (s.requires.0, omega (arith, w.ensures.value, ap length c.of.ensures, s.requires.1))

pub returns : goal.returns
returns c =
    let a = c.args in
    let o = c.put_octets_at-at in
    let z = c.put_zeros_at in
    let l = laid_as (stretch_of a.source.now a.text) c.of.ensures (laid_none a.at a.out.now (omega arith)) o.ensures.value o.ensures.out_after in
    record {
      value = z.ensures.value ∙ ap (λ (k : ℕ). k + a.zeros) l.next;
      out_after = (laid_zeros a.zeros refl l z.ensures.value z.ensures.out_after).buffer;
    }
