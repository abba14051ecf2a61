use Rattle.std.proofs.Common.{◌≡◌, refl, sym, ap, subst, ◌∙◌, rules, true, false, ◌+◌, ◌*◌, ◌<◌, ◌≤◌, Some}
use Rattle.octets.specs.Lists.{cut}
use Rattle.table.specs.declared.record.RecordFormat.{RecordFormat}
use Rattle.table.specs.Format.{format_of}
use Rattle.table_find.specs.Internal.Search.{passes, first_in_body}
use Rattle.table_search.proofs.Laws.Record.{record_there}
use Rattle.table_search.proofs.Laws.Search.{passed, failed, unused_fails, found_there, left_next, left_none}
use Rattle.table_search.proofs.search.first_in_body.Goals as goal
use Rattle.table_search.proofs.search.first_in_body.Goals.{else-test-via-then-test+else-not-all_zero, else-test-via-else-test}

pub loop-i-init : goal.loop-i-init
unfolding first_in_body
loop-i-init g c = λ t says. refl

pub returns-then-not-all_zero-clause-result_value : goal.returns-then-not-all_zero-clause-result_value
returns-then-not-all_zero-clause-result_value g c = λ t says.
    let a = c.args in
    let i = c.loop-i.i in
    let r = c.part-octets.result.now in
    let e = c.format_of-format.ensures in
    let there : r ≡ record_there a.kind a.image.now a.body i = c.part-octets.ensures ∙ ap (λ (f : RecordFormat). cut a.image.now (a.body + f.width * i) f.width) e in
    let told : c.test.result ≡ t r = says r c.test.result (search rules) in
    let yes : passes t r ≡ true = passed t r c.test.result told c.all_zero.result c.all_zero.ensures c.if-not-all_zero.true c.if-test.true in
    ap (λ (f : RecordFormat). Some (cut a.image.now (a.body + f.width * i) (format_of a.kind).width)) e
    ∙ found_there a.kind t a.image.now a.body i (subst (λ (f : RecordFormat). i < f.count) e c.loop-i-test.true) (ap (passes t) (sym there) ∙ yes)
    ∙ c.loop-i.invariant t says

pub loop-i-preserved : goal.loop-i-preserved
loop-i-preserved g c = λ t says.
    let a = c.args in
    let i = c.loop-i.i in
    let r = c.part-octets.result.now in
    let e = c.format_of-format.ensures in
    let there : r ≡ record_there a.kind a.image.now a.body i = c.part-octets.ensures ∙ ap (λ (f : RecordFormat). cut a.image.now (a.body + f.width * i) f.width) e in
    let told : c.test.result ≡ t r = says r c.test.result (search rules) in
    let no : passes t r ≡ false =
    elim c.else-test.branch [
      | else-test-via-then-test+else-not-all_zero w ↦ unused_fails t r w.all_zero.result w.all_zero.ensures w.if-not-all_zero.false
      | else-test-via-else-test w ↦ failed t r c.test.result told w.if-test.false
    ] in
    left_next a.kind t a.image.now a.body i (subst (λ (f : RecordFormat). i < f.count) e c.loop-i-test.true) (ap (passes t) (sym there) ∙ no)
    ∙ c.loop-i.invariant t says

pub returns-clause-result_value : goal.returns-clause-result_value
returns-clause-result_value g c = λ t says.
    let a = c.args in
    let i = c.loop-i.i in
    left_none a.kind t a.image.now a.body i (subst (λ (f : RecordFormat). f.count ≤ i) c.format_of-format.ensures c.loop-i-test.false) ∙ c.loop-i.invariant t says
