use mathlib.Core.Path.{◌≡◌, refl, sym, ap, ◌∙◌}
use mathlib.Core.List.{List, [], ◌++◌}
use Prim.Native.Nat.{ℕ, ◌+◌, ◌-◌, ◌≤◌}
use native.Mathlib.Omega.{arith}
use lib.ListN.{length, drop, take, get_or, length-take, length-drop, length-append}
use Rattle.octets.specs.Buffer.{over}
use Rattle.octets.proofs.Laws.Buffer.{over_none, over_lent, over-length}
use Rattle.filter.specs.declared.request.ClauseName.TheVariants.{DnsDomain}
use Rattle.filter.specs.Request.{Clause, clause_names, octets_of}
use Rattle.filter_octets.specs.Octets.{equality_for}
use Rattle.filter_octets.specs.Internal.Size.{contents}
use Rattle.filter_octets.proofs.Laws.Size.{equality_at, written_next, written_fits, written_all}
use Rattle.filter_put.proofs.put.put_clauses.Goals as goal
use Rattle.filter_put.proofs.put.put_clauses.Goals.{After-clause}

-- the equality that a turn writes
module _ (c : After-clause) where
  abbrev written : List ℕ
  written = equality_for (get_or clause_names c.loop-name.name-index DnsDomain) (octets_of c.args.source.now c.clause.result)

  abbrev meant : List ℕ
  meant = equality_at c.args.source.now c.args.request c.loop-name.name-index

  as-meant : written ≡ meant
  as-meant = ap (λ (x : Clause). equality_for (get_or clause_names c.loop-name.name-index DnsDomain) (octets_of c.args.source.now x)) c.clause.ensures

  fits : c.loop-name.at + length written ≤ length (contents c.args.source.now c.args.request clause_names)
  fits =
      let l = c.loop-name in
      let f = written_fits c.args.source.now c.args.request l.invariant.0 l.name-index l.invariant.4 c.loop-name-test.true in
      let e = ap length as-meant in
      let a = l.invariant.3 in
      omega arith

pub loop-name-init : goal.loop-name-init
loop-name-init c = ([], omega arith, refl, refl, refl, sym (over_none c.args.out.now))

pub put_equality-at-requires : goal.put_equality-at-requires
put_equality-at-requires c =
    let f = fits (goal.at.put_equality-at-requires c).After-clause in
    let p = c.requires in
    let o = c.loop-name.invariant.2 in
    record {
      clause_in_bounds = simp (length-take, length-drop) (omega arith);
      clause_len_bound = omega arith;
    }

pub overflow_add-at : goal.overflow_add-at
overflow_add-at c =
    let f = fits (goal.at.overflow_add-at c).After-clause in
    let e = c.put_equality-at.ensures.value in
    let p = c.requires in
    omega arith

pub loop-name-preserved : goal.loop-name-preserved
loop-name-preserved c =
    let p = c.args in
    let l = c.loop-name in
    let q = c.put_equality-at in
    let w : List ℕ = l.invariant.0 in
    let x : List ℕ = meant (goal.at.loop-name-preserved c).After-clause in
    let b : q.new.out ≡ over x (take (length l.out - l.at) (drop l.at l.out)) = q.ensures.out_after ∙ ap (λ (y : List ℕ). over y (take (length l.out - l.at) (drop l.at l.out))) (as-meant (goal.at.loop-name-preserved c).After-clause) in
    let o = over_lent w x q.new.out p.out.now l.out l.at l.invariant.5 (sym l.invariant.3) b in
    let n : l.at + q.result ≡ length (w ++ x) = (λ i. l.invariant.3 i + (q.ensures.value ∙ ap length (as-meant (goal.at.loop-name-preserved c).After-clause)) i) ∙ sym (length-append w x) in
    let m = written_fits p.source.now p.request w l.name-index l.invariant.4 c.loop-name-test.true in (
      w ++ x,
      omega arith,
      ap length o ∙ over-length (w ++ x) p.out.now (simp length-append (omega arith)),
      n,
      written_next p.source.now p.request w l.name-index l.invariant.4 c.loop-name-test.true,
      o,
    )

pub returns : goal.returns
returns c =
    let p = c.args in
    let l = c.loop-name in
    l.invariant.5 ∙ ap (λ (w : List ℕ). over w p.out.now) (written_all p.source.now p.request l.invariant.0 l.name-index l.invariant.4 c.loop-name-test.false)
