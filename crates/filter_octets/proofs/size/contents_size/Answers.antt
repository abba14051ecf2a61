use mathlib.Core.Path.{◌≡◌, ap, ◌∙◌}
use native.Mathlib.Omega.{arith}
use lib.ListN.{length, drop, get_or}
use Rattle.filter.specs.declared.request.ClauseName.TheVariants.{DnsDomain}
use Rattle.filter.specs.Request.{Clause, clause_names, octets_of}
use Rattle.filter_octets.specs.Octets.{equality_for}
use Rattle.filter_octets.specs.Internal.Size.{contents}
use Rattle.filter_octets.proofs.Laws.Size.{equality_at, contents-size-next, contents-end}
use Rattle.filter_octets.proofs.size.contents_size.Goals as goal

pub loop-name-preserved : goal.loop-name-preserved
loop-name-preserved c =
    let p = c.args in
    let l = c.loop-name in
    let e : c.equality_size.result ≡ length (equality_at p.source.now p.request l.name-index) =
    c.equality_size.ensures ∙ ap (λ (x : Clause). length (equality_for (get_or clause_names l.name-index DnsDomain) (octets_of p.source.now x))) c.clause.ensures in
    let n = contents-size-next p.source.now p.request l.name-index c.loop-name-test.true in
    let s = c.capped_sum-size.ensures in
    let i = l.invariant.2 in
    (omega arith, omega arith, omega arith)

pub returns : goal.returns
returns c =
    let p = c.args in
    let l = c.loop-name in
    let e : length (contents p.source.now p.request (drop l.name-index clause_names)) ≡ 0 = contents-end p.source.now p.request l.name-index c.loop-name-test.false in
    let i = l.invariant.2 in
    omega arith
