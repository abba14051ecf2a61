use mathlib.Core.Path.{◌≡◌, sym, subst, ◌∙◌}
use Prim.Native.Nat.{◌+◌, ◌*◌, ◌-◌, ◌≤◌}
use native.Mathlib.Omega.{arith}
use borrow.Author.Rules.{rules}
use borrow.Author.Tests.{not-false}
use Rattle.octets.specs.Lists.{cut}
use Rattle.octets.proofs.Laws.Text.{within_low, within-high}
use Rattle.mailslot.specs.Internal.Runs.{of_name, Running}
use Rattle.mailslot.proofs.Laws.Name.{name_octet}
use Rattle.mailslot.proofs.Laws.Run.{run_starts, plain_goes}
use Rattle.mailslot.proofs.Laws.User.{octets_known, octets-cut, user-left}
use Rattle.mailslot.proofs.text.plain_run.Goals as goal

pub loop-i-init : goal.loop-i-init
loop-i-init c =
    let a = c.args in
    let s = a.s.now in
    let pre = c.requires in
    let none : a.start ≡ a.start + 2 * 0 = omega arith in
    (omega arith, subst (λ at. Running s a.start at 0) none (run_starts s a.start pre.0 (λ m. user-left (cut s a.start m) (octets-cut s a.start m (octets_known s pre.1)))))

pub returns-then-unit : goal.returns-then-unit
returns-then-unit c = c.loop-i.invariant.1

pub loop-i-preserved : goal.loop-i-preserved
loop-i-preserved c =
    let a = c.args in
    let l = c.loop-i in
    let u = c.u16_at-unit in
    let letter = not-false (of_name u.result) (sym (name_octet u.result) ∙ c.if-unit.false) in
    let two : a.start + 2 * l.i + 2 ≡ a.start + 2 * (l.i + 1) = omega arith in (
      omega arith,
      subst (λ at. Running a.s.now a.start at (l.i + 1)) two
          (plain_goes a.s.now a.start (a.start + 2 * l.i) l.i l.invariant.1 u.result u.ensures (omega arith) (within_low 1 0x7F u.result letter) (within-high 1 0x7F u.result letter) (omega arith)),
    )

pub returns : goal.returns
returns c =
    let l = c.loop-i in
    let e : l.i ≡ c.min-units.result = omega arith in
    subst (λ n. Running c.args.s.now c.args.start (c.args.start + 2 * n) n) e l.invariant.1
