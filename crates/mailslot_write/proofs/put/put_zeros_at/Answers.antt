use borrow.Author.Rules.{rules}
use mathlib.Core.Path.{◌≡◌, refl, ap, ◌∙◌}
use mathlib.Core.List.{List, ◌∷◌}
use Prim.Native.Nat.{ℕ, zero, suc, ◌+◌, ◌≤◌}
use native.Mathlib.Omega.{arith}
use lib.ListN.{length, take, replicate, length-replicate}
use Rattle.lent.proofs.Laws.OverAt.{laid_none}
use Rattle.mailslot_write.proofs.Laws.Put.{laid_as}
use Rattle.mailslot_write.proofs.put.put_zeros_at.Goals as goal

-- so many of three zeros
some-zeros : (n most : ℕ) → n ≤ most → ◌≡◌ {A = List ℕ} (take n (replicate most 0)) (replicate n 0)
some-zeros zero most h = refl
some-zeros (suc n) zero h = absurd (omega arith)
some-zeros (suc n) (suc most) h = ap (λ (x : List ℕ). 0 ∷ x) (some-zeros n most (omega arith))

pub put_octets_at-requires : goal.put_octets_at-requires
put_octets_at-requires c =
    let s = c in
    let z = ap length (c.part.ensures ∙ some-zeros s.args.count 3 s.requires.0) in
    omega (arith, s.requires.1, length-replicate {A = ℕ} s.args.count 0)

pub returns : goal.returns
returns c =
    let s = c in
    let w = c.put_octets_at in
    let l = laid_as (replicate s.args.count 0) (c.part.ensures ∙ some-zeros s.args.count 3 s.requires.0) (laid_none s.args.at s.args.out.now (omega (arith, s.requires.1))) w.ensures.value w.ensures.out_after in
    record {
      value = l.next ∙ ap (λ (k : ℕ). s.args.at + k) (length-replicate s.args.count 0);
      out_after = l.buffer;
    }
