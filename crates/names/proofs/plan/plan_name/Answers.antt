use mathlib.Core.Path.{sym, ap, ◌∙◌, subst}
use mathlib.Core.List.{List}
use Prim.Native.Nat.{ℕ}
use lib.ListN.{length}
use Rattle.octets.specs.Label.{labels}
use Rattle.names.specs.Name.{Tail}
use Rattle.names.specs.Internal.Plan.{first_aim, AimWithin, names_tails, plan_by, PlanOf}
use Rattle.lent.proofs.Laws.Stretch.{text_short}
use Rattle.names.proofs.Laws.Plan.{plan_of}
use Rattle.names.proofs.plan.plan_name.Goals as goal

pub planned-requires : goal.planned-requires
planned-requires c =
    let p = c.args in
    rw c.text-octets.ensures (text_short p.lent.table.now p.lent.request.now p.text)

pub returns : goal.returns
returns c =
    let p = c.args in
    let a = c.best_aim-aim in
    let e = c.text-octets.ensures in
    let ts : List Tail = names_tails p.lent.table.now p.lent.request.now p.names.now in
    subst (PlanOf p.lent.table.now p.lent.request.now p.names.now p.text p.offset)
    (sym (c.planned.ensures ∙ ap (λ (s : List ℕ). plan_by p.text (length s) p.offset a.result) e))
    (plan_of p.lent.table.now p.lent.request.now p.names.now p.text p.offset c.requires.low a.result
    (a.ensures.value ∙ ap (λ (s : List ℕ). first_aim ts (labels s)) e) (subst (λ (s : List ℕ). AimWithin (length s) a.result) e a.ensures.aim_within))
