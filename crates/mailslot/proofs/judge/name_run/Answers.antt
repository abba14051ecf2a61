use mathlib.Core.Path.{◌≡◌, sym, subst, ◌∙◌}
use mathlib.Core.Bool.{true}
use Prim.Native.Nat.{◌-◌, ◌≤◌}
use native.Mathlib.Omega.{arith}
use lib.ListN.{length, get_or}
use borrow.Author.Tests.{not-true, not-false}
use Rattle.octets.specs.Lists.{all, cut}
use Rattle.mailslot.specs.Internal.Runs.{of_name, NameRun}
use Rattle.mailslot.proofs.Laws.Name.{name_octet, name_starts, name_goes}
use Rattle.mailslot.proofs.judge.name_run.Goals as goal

pub loop-at-init : goal.loop-at-init
loop-at-init c = (omega arith, omega arith, name_starts c.args.s.now c.args.start)

pub bounds-s-at : goal.bounds-s-at
bounds-s-at c = omega arith

pub returns-then-octet : goal.returns-then-octet
returns-then-octet c =
    let a = c.args in
    let l = c.loop-at in
    let x = get_or a.s.now l.at 0 in
    record { from = l.invariant.0; to = l.invariant.1; octets = l.invariant.2; next = λ h. not-true (of_name x) (sym (name_octet x) ∙ c.if-octet.true) }

pub loop-at-smaller : goal.loop-at-smaller
loop-at-smaller c = omega arith

pub loop-at-preserved : goal.loop-at-preserved
loop-at-preserved c =
    let a = c.args in
    let l = c.loop-at in
    let x = get_or a.s.now l.at 0 in
    (omega arith, omega arith, name_goes a.s.now a.start l.at l.invariant.0 (omega arith) l.invariant.2 (not-false (of_name x) (sym (name_octet x) ∙ c.if-octet.false)))

pub returns : goal.returns
returns c =
    let l = c.loop-at in
    let e : l.at ≡ length c.args.s.now = omega arith in
    subst (NameRun c.args.s.now c.args.start) e (record { from = l.invariant.0; to = l.invariant.1; octets = l.invariant.2; next = λ h. absurd (omega arith) })
