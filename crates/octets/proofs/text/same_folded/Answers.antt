use mathlib.Core.Path.{sym, ap, ◌∙◌}
use borrow.Author.Rules.{rules}
use borrow.Author.Tests.{tests}
use Rattle.std.specs.Slice.Iter.{iter_rest}
use Rattle.std.proofs.lemmas.Iterator.{YieldsList-from_slice, YieldsList-from_zip}
use Rattle.std.proofs.lemmas.Iterator.Search.{all_from_yields_List}
use mathlib.Core.List.{map}
use lib.ListN.{length-map}
use borrow.Author.Tests.{ne_eqb}
use Rattle.octets.specs.Text.{lower}
use Rattle.octets.proofs.Laws.Text.{alike_octets, same_lengths, pairs_folded}
use Rattle.octets.proofs.text.same_folded.Goals as goal

pub returns-then-a-b : goal.returns-then-a-b
returns-then-a-b c =
    let p = c.args in
    all_from_yields_List alike_octets c.all.new.self _ _ c.all.ensures.ran
    (YieldsList-from_zip (YieldsList-from_slice p.a.now (ap iter_rest c.zip.ensures.first ∙ c.iter.ensures.rest)) (YieldsList-from_slice p.b.now (ap iter_rest c.zip.ensures.second ∙ c.iter-then-a-b.ensures.rest))) (λ x b q k. search (rules, tests))
    ∙ pairs_folded p.a.now p.b.now c.if-a-b.true

pub returns-else-a-b : goal.returns-else-a-b
returns-else-a-b c =
    let a = c.args.a.now in
    let b = c.args.b.now in
    ne_eqb _ _ c.if-a-b.false ∙ sym (same_lengths (map lower a) (map lower b) (λ e. c.if-a-b.false (sym (length-map a lower) ∙ e ∙ length-map b lower)))
