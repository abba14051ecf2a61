use mathlib.Core.Path.{◌≡◌, refl, sym, ap, subst, ◌∙◌}
use mathlib.Core.List.{List, ◌++◌, flat_map}
use Prim.Native.Nat.{ℕ, ◌+◌, ◌≤◌, ◌<◌}
use native.Mathlib.Omega.{arith}
use lib.ListN.{length, get_or, take, length-take, length-drop, length-append}
use Rattle.octets.specs.Buffer.{over}
use Rattle.octets.proofs.Laws.Buffer.{over_none, over_lent, over-length}
use Rattle.names.specs.declared.plan.PlannedName.{PlannedName}
use Rattle.names.specs.Internal.Plan.{name_octets, names_octets, Fit}
use Rattle.names.proofs.Laws.Plan.{fit_at, octets-more, octets-within}
use Rattle.names_write.proofs.put.put_names.Goals as goal

-- a name has room after those before it
within : (table request : List ℕ) (names : List PlannedName) (i : ℕ) (name : PlannedName) → i < length names → name ≡ get_or names i name
    → length (names_octets table request (take i names)) + length (name_octets table request name) ≤ length (names_octets table request names)
within table request names i name h is =
    omega (arith, octets-within table request names i name h, ap (λ (n : PlannedName). length (name_octets table request n)) is)

pub loop-name-init : goal.loop-name-init
unfolding flat_map
loop-name-init c = (refl, refl, sym (over_none c.args.out.now))

pub slice_bounds-put_name-count : goal.slice_bounds-put_name-count
slice_bounds-put_name-count c =
    let p = c.args in
    let l = c.loop-name in
    let w = within p.lent.table.now p.lent.request.now p.names.now l.name-index c.name-item.result c.loop-name-test.true c.name-item.is in
    omega (arith, l.invariant.0, l.invariant.1, c.requires.names_in_bounds)

pub slice_bounds-put_name-start : goal.slice_bounds-put_name-start
slice_bounds-put_name-start c =
    let p = c.args in
    let l = c.loop-name in
    let w = within p.lent.table.now p.lent.request.now p.names.now l.name-index c.name-item.result c.loop-name-test.true c.name-item.is in
    omega (arith, l.invariant.0, l.invariant.1, c.requires.names_in_bounds)

pub put_name-at-requires : goal.put_name-at-requires
put_name-at-requires c =
    let p = c.args in
    let l = c.loop-name in
    let n = c.name-item in
    let w = within p.lent.table.now p.lent.request.now p.names.now l.name-index n.result c.loop-name-test.true n.is in
    record {
      fit = subst (Fit p.lent.table.now p.lent.request.now) (sym n.is)
          (fit_at p.lent.table.now p.lent.request.now p.names.now l.name-index n.result c.requires.all_fit c.loop-name-test.true);
      name_in_bounds = simp (length-take, length-drop) (omega (arith, l.invariant.0, l.invariant.1, c.requires.names_in_bounds));
    }

pub overflow_add-at : goal.overflow_add-at
overflow_add-at c =
    let p = c.args in
    let l = c.loop-name in
    let w = within p.lent.table.now p.lent.request.now p.names.now l.name-index c.name-item.result c.loop-name-test.true c.name-item.is in
    omega (arith, l.invariant.1, c.put_name-at.ensures.value, c.requires.names_in_bounds)

pub loop-name-preserved : goal.loop-name-preserved
loop-name-preserved c =
    let p = c.args in
    let table : List ℕ = p.lent.table.now in
    let request : List ℕ = p.lent.request.now in
    let l = c.loop-name in
    let n = c.name-item in
    let q = c.put_name-at in
    let w : List ℕ = names_octets table request (take l.name-index p.names.now) in
    let x : List ℕ = name_octets table request n.result in
    let k = within table request p.names.now l.name-index n.result c.loop-name-test.true n.is in
    let m : w ++ x ≡ names_octets table request (take (l.name-index + 1) p.names.now) =
    ap (λ (d : PlannedName). w ++ name_octets table request d) n.is ∙ octets-more table request p.names.now l.name-index n.result c.loop-name-test.true in
    let o = over_lent w x q.new.out p.out.now l.out l.at l.invariant.2 (sym l.invariant.1) q.ensures.out_after in (
      ap length o ∙ over-length (w ++ x) p.out.now (simp length-append (omega (arith, l.invariant.1, c.requires.names_in_bounds))),
      (λ j. l.invariant.1 j + q.ensures.value j) ∙ sym (length-append w x) ∙ ap length m,
      o ∙ ap (λ (y : List ℕ). over y p.out.now) m,
    )
