use mathlib.Core.Path.{◌≡◌, refl, sym, ◌∙◌}
use mathlib.Core.List.{flat_map}
use native.Mathlib.Omega.{arith}
use lib.ListN.{length, length-set}
use Rattle.names.specs.Name.{write_names}
use Rattle.names.specs.Internal.Plan.{name_octets}
use Rattle.names.proofs.Laws.Plan.{literal_short, name-length, length_more, fit-more, writes_more}
use Rattle.names.proofs.plan.plan_names.Goals as goal
use Rattle.names.proofs.plan.plan_names.Goals.{After-size-end}

-- the size of the name that a turn plans
taken : (c : After-size-end) → c.size-end.result ≡ length (name_octets c.args.lent.table.now c.args.lent.request.now c.plan_name-name.result)
taken c =
    let p = c.args in
    c.size-end.ensures ∙ sym (name-length p.lent.table.now p.lent.request.now c.plan_name-name.result c.plan_name-name.ensures.fit)

pub loop-i-init : goal.loop-i-init
unfolding flat_map write_names
loop-i-init c = (refl, tt, refl, omega arith, omega arith)

pub size-end-requires : goal.size-end-requires
size-end-requires c = literal_short c.args.lent.table.now c.args.lent.request.now c.plan_name-name.result c.plan_name-name.ensures.fit

pub overflow_add-end : goal.overflow_add-end
overflow_add-end c = omega (arith, taken (goal.at.overflow_add-end c).After-size-end, c.plan_name-name.ensures.small)

pub loop-i-preserved : goal.loop-i-preserved
loop-i-preserved c =
    let p = c.args in
    let table = p.lent.table.now in
    let request = p.lent.request.now in
    let l = c.loop-i in
    let n = c.plan_name-name in
    let text = c.index-texts-i in
    let s = taken (goal.at.loop-i-preserved c).After-size-end in
    let m = length_more table request l.names l.i n.result (omega arith) in (
      simp length-set l.invariant.0,
      fit-more table request l.names l.i n.result (omega arith) l.invariant.1 n.ensures.fit,
      writes_more table request l.names l.i n.result (omega arith) p.texts.now p.offset l.end text.result c.loop-i-test.true text.is l.invariant.2 l.invariant.3 n.ensures,
      omega (arith, l.invariant.3),
      omega (arith, l.invariant.4, n.ensures.small),
    )
