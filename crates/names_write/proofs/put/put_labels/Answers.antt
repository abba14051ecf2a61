use mathlib.Core.Path.{◌≡◌, sym, ap, ap₂, ◌∙◌}
use mathlib.Core.List.{List, [], ◌∷◌, ◌++◌}
use Prim.Native.Nat.{ℕ, ◌+◌, ◌<◌, ◌≤◌}
use native.Mathlib.Omega.{arith}
use native.Mathlib.Numerals.{add-one}
use lib.ListN.{length, get_or, take, set}
use lib.Seq.{take-suc, length-take-le}
use Rattle.octets.specs.Buffer.{over}
use Rattle.octets.proofs.Laws.Buffer.{over_none, over-more}
use Rattle.names.specs.Internal.Plan.{literal_octets}
use Rattle.names_write.proofs.put.put_labels.Goals as goal

pub loop-i-init : goal.loop-i-init
loop-i-init c = sym (over_none c.args.out.now)

pub loop-i-preserved : goal.loop-i-preserved
loop-i-preserved c =
    let p = c.args in
    let l = c.loop-i in
    let s : List ℕ = literal_octets p.text.now in
    let h : l.i < length s = omega arith in
    let t : take (l.i + 1) s ≡ take l.i s ++ (get_or s l.i 0 ∷ []) = rw add-one (take-suc s l.i 0 h) in
    ap₂ (λ (d : List ℕ) (v : ℕ). set d l.i v) l.invariant c.literal_octet.ensures
    ∙ over-more (take l.i s) p.out.now l.i (get_or s l.i 0) (length-take-le l.i s (omega arith)) (omega arith)
    ∙ ap (λ (x : List ℕ). over x p.out.now) (sym t)
