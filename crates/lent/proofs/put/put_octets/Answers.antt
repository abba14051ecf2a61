use mathlib.Core.Path.{◌≡◌, refl, sym, ap, ◌∙◌}
use mathlib.Core.List.{List, [], ◌∷◌, ◌++◌}
use Prim.Native.Nat.{ℕ, ◌+◌, ◌≤◌, ◌<◌}
use native.Mathlib.Omega.{arith}
use native.Mathlib.Numerals.{add-one}
use lib.ListN.{length, get_or, take, set, length-set}
use lib.Seq.{take-suc, take-length, length-take-le}
use Rattle.octets.specs.Buffer.{over}
use Rattle.octets.proofs.Laws.Buffer.{over_none, over-more}
use Rattle.lent.proofs.put.put_octets.Goals as goal

pub loop-i-init : goal.loop-i-init
loop-i-init c = (refl, sym (over_none c.args.out.now))

pub loop-i-preserved : goal.loop-i-preserved
loop-i-preserved c =
    let p = c.args in
    let l = c.loop-i in
    let s : List ℕ = p.s.now in
    let h : l.i < length s = omega arith in
    let t : take (l.i + 1) s ≡ take l.i s ++ (get_or s l.i 0 ∷ []) = rw add-one (take-suc s l.i 0 h) in (
      simp length-set l.invariant.0,
      ap (λ (d : List ℕ). set d l.i (get_or s l.i 0)) l.invariant.1
          ∙ over-more (take l.i s) p.out.now l.i (get_or s l.i 0) (length-take-le l.i s (omega arith)) (omega arith)
          ∙ ap (λ (x : List ℕ). over x p.out.now) (sym t),
    )

pub returns-clause-out_after : goal.returns-clause-out_after
returns-clause-out_after c =
    let p = c.args in
    let l = c.loop-i in
    let e : l.i ≡ length p.s.now = omega arith in
    l.invariant.1 ∙ ap (λ (n : ℕ). over (take n p.s.now) p.out.now) e ∙ ap (λ (x : List ℕ). over x p.out.now) (take-length p.s.now)
