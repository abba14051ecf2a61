use Rattle.std.proofs.Common.{◌≡◌, sym, ap, subst, ◌∙◌, arith, List, ℕ, ◌≤◌, length, None, Some}
use Rattle.table.specs.Block.{blocks_of}
use Rattle.table_whole.specs.Judgement.{Accepted}
use Rattle.table_whole.proofs.Laws.Judgement.{accepted_bounds}
use Rattle.table_find.specs.Internal.Found.{record_found}
use Rattle.table_find.specs.Internal.Search.{first_in}
use Rattle.table_search.proofs.Laws.Search.{search_step, search_end}
use Rattle.table_search.proofs.search.first_record.Goals as goal

pub overflow_cast-i : goal.overflow_cast-i
overflow_cast-i g c =
    let s = c.octets-octets.result.now in
    let most : length s ≤ 65536 = (accepted_bounds s (subst Accepted (sym c.octets-octets.ensures.same) c.octets-octets.ensures.accepted)).1 in
    omega (arith, most)

pub returns-in-Some-clause-result_value : goal.returns-in-Some-clause-result_value
returns-in-Some-clause-result_value g c = λ t says.
    let a = c.args in
    let found = search_step a.kind t c.octets-octets.result.now c.loop-i.i (Some _) c.loop-i-test.true (c.in-Some.ensures.result_value t says) ∙ c.loop-i.invariant t says in
    subst (λ (s : List ℕ). record_found s a.kind (Some c.in-Some.offset) ≡ first_in a.kind t (blocks_of s)) c.octets-octets.ensures.same found

pub loop-i-preserved : goal.loop-i-preserved
loop-i-preserved g c = λ t says.
    search_step c.args.kind t c.octets-octets.result.now c.loop-i.i None c.loop-i-test.true (c.in_default.ensures.result_value t says) ∙ c.loop-i.invariant t says

pub returns-clause-result_value : goal.returns-clause-result_value
returns-clause-result_value g c = λ t says.
    let a = c.args in
    search_end a.kind t c.octets-octets.result.now c.loop-i.i c.loop-i-test.false
    ∙ c.loop-i.invariant t says ∙ ap (λ (s : List ℕ). first_in a.kind t (blocks_of s)) c.octets-octets.ensures.same
