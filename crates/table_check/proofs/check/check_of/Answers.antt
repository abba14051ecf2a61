use mathlib.Core.Path.{◌≡◌, refl, sym, ap, subst, ◌∙◌}
use mathlib.Core.List.{List}
use Prim.Native.Nat.{ℕ, ◌<◌}
use native.Mathlib.Omega.{arith}
use lib.ListN.{length, take, drop}
use Rattle.octets.specs.Lists.{cut}
use Rattle.table_check.proofs.Laws.Step.{step_below, step_as_singly, grown-cut}
use Rattle.table_check.specs.declared.check.Check.{Check}
use Rattle.table_check.specs.Step.{step}
use Rattle.table_check.specs.Check.{grown, check_of_lem}
use Rattle.table_check.proofs.check.check_of.Goals as goal

pub loop-front-init : goal.loop-front-init
unfolding check_of_lem
loop-front-init c = (omega arith, omega arith, refl)

pub loop-front-preserved : goal.loop-front-preserved
loop-front-preserved c =
    let l = c.loop-front in
    let s = l.left.now in
    let parts = c.in-Some.ensures.cases in
    let q : c.step-check.result ≡ step l.check (cut s 0 16) = c.step-check.ensures ∙ ap (step l.check) parts.1 in
    let below = step_below l.check (cut s 0 16) in (
      subst (λ (k : Check). k.a < 65536) (sym q) below.0,
      subst (λ (k : Check). k.b < 65536) (sym q) below.1,
      ap (grown c.step-check.result) parts.2 ∙ ap (λ (k : Check). grown k (drop 16 s)) (q ∙ step_as_singly l.check (cut s 0 16) l.invariant.0 l.invariant.1) ∙ grown-cut l.check s 0 16 ∙ l.invariant.2,
    )

pub returns : goal.returns
returns c =
    let l = c.loop-front in
    c.step.ensures ∙ step_as_singly l.check l.left.now l.invariant.0 l.invariant.1 ∙ l.invariant.2
