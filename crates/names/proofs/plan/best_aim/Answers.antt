use mathlib.Core.Path.{sym, ap, ap₂, subst, ◌∙◌}
use mathlib.Core.List.{List, flat_map}
use Prim.Native.Nat.{ℕ}
use lib.ListN.{length}
use Rattle.octets.specs.Label.{labels}
use Rattle.names.specs.declared.plan.PlannedName.{PlannedName}
use Rattle.names.specs.Internal.Plan.{first_aim, better_aim, AimWithin, name_tails, Fit}
use Rattle.names.proofs.Laws.Plan.{fit_at, search_more}
use Rattle.names.proofs.Laws.Plan.Search.{search_none, better_within}
use Rattle.names.proofs.plan.best_aim.Goals as goal

pub loop-name-init : goal.loop-name-init
unfolding flat_map
loop-name-init c = (sym (search_none (labels c.args.text.now)), tt)

pub aim-requires : goal.aim-requires
aim-requires c =
    let p = c.args in
    let n = c.name-item in
    subst (Fit p.lent.table.now p.lent.request.now) (sym n.is)
    (fit_at p.lent.table.now p.lent.request.now p.names.now c.loop-name.name-index n.result c.requires c.loop-name-test.true)

pub loop-name-preserved : goal.loop-name-preserved
loop-name-preserved c =
    let p = c.args in
    let l = c.loop-name in
    let n = c.name-item in
    let ls : List (List ℕ) = labels p.text.now in
    let e = ap (λ (name : PlannedName). first_aim (name_tails p.lent.table.now p.lent.request.now name) ls) n.is in
    let w = better_within (length p.text.now) l.aim c.aim.result l.invariant.1 c.aim.ensures.aim_within in (
      c.better-aim.ensures
          ∙ ap₂ better_aim l.invariant.0 (c.aim.ensures.value ∙ e)
          ∙ sym (search_more p.lent.table.now p.lent.request.now p.names.now l.name-index n.result c.loop-name-test.true ls),
      subst (AimWithin (length p.text.now)) (sym c.better-aim.ensures) w,
    )
