use mathlib.Core.Path.{sym, subst}
use Prim.Native.Nat.{◌-◌}
use native.Mathlib.Omega.{arith}
use lib.ListN.{length}
use borrow.Author.Rules.{rules}
use Rattle.mailslot.specs.Internal.Runs.{Character, octets_for, Running}
use Rattle.mailslot.proofs.Laws.Run.{run_goes, run_stops, short_stops, full_stops}
use Rattle.mailslot.proofs.text.text_run.Goals as goal

pub loop-at-init : goal.loop-at-init
loop-at-init c = c.plain_run-size.ensures

pub returns-then-here-eq0 : goal.returns-then-here-eq0
returns-then-here-eq0 c =
    let a = c.args in
    let l = c.loop-at in
    run_stops a.s.now a.start l.at l.size l.invariant c.first_octet-octet.ensures (c.character_size-here.ensures.lacks c.if-here-eq0.true l.size)

pub returns-then-size-here-gt-USER_NAME_MOST : goal.returns-then-size-here-gt-USER_NAME_MOST
returns-then-size-here-gt-USER_NAME_MOST c =
    let here = c.character_size-here in
    let a = c.args in
    let l = c.loop-at in
    run_stops a.s.now a.start l.at l.size l.invariant c.first_octet-octet.ensures
    (full_stops a.s.now l.at l.size (octets_for here.result) here.result (here.ensures.stands (omega arith)) c.if-size-here-gt-USER_NAME_MOST.true)

pub overflow_add-at-in-loop-at : goal.overflow_add-at-in-loop-at
overflow_add-at-in-loop-at c =
    let a = c.args in
    let l = c.loop-at in
    let here = c.character_size-here in
    let stands = subst (λ n. Character a.s.now l.at n here.result) (sym c.octets_for-at.ensures.0) (here.ensures.stands (omega arith)) in
    omega (arith, stands.to)

pub loop-at-smaller : goal.loop-at-smaller
loop-at-smaller c =
    let a = c.args in
    let l = c.loop-at in
    let here = c.character_size-here in
    let stands = subst (λ n. Character a.s.now l.at n here.result) (sym c.octets_for-at.ensures.0) (here.ensures.stands (omega arith)) in
    omega (arith, stands.to)

pub loop-at-preserved : goal.loop-at-preserved
loop-at-preserved c =
    let a = c.args in
    let l = c.loop-at in
    let here = c.character_size-here in
    let stands = subst (λ n. Character a.s.now l.at n here.result) (sym c.octets_for-at.ensures.0) (here.ensures.stands (omega arith)) in
    run_goes a.s.now a.start l.at l.size l.invariant c.octets_for-at.result here.result stands (omega arith)

pub returns : goal.returns
returns c =
    let a = c.args in
    let l = c.loop-at in
    run_stops a.s.now a.start l.at l.size l.invariant c.first_octet-octet.ensures (short_stops a.s.now l.at l.size (omega arith))
