use mathlib.Core.Path.{ap, ◌∙◌}
use borrow.Author.Rules.{rules}
use borrow.Author.Tests.{tests}
use lib.Dec.{eqb}
use Rattle.std.specs.List.{slice_split}
use Rattle.std.proofs.lemmas.Iterator.Search.{all_from_yields_List}
use Rattle.std.proofs.lemmas.Iterator.Splits.{YieldsList-from_slice_split}
use Rattle.octets.specs.Lists.{all}
use Rattle.octets.specs.NameRule.{sized}
use Rattle.octets.proofs.Laws.Lists.{list_all_is}
use Rattle.name_rules.proofs.Laws.Labels.{split_parts}
use Rattle.name_rules.proofs.name_rule.has_good_labels.Goals as goal

pub returns : goal.returns
returns c =
    let s = c.args.s.now in
    all_from_yields_List (sized 1 63) _ _ _ c.all.ensures.ran
    (YieldsList-from_slice_split _ (λ x. eqb x 46) s c.split.ensures.rest c.split.ensures.done c.split.ensures.closure (λ x b q k. search (rules, tests)))
    (λ x b q k. search (rules, tests))
    ∙ list_all_is (sized 1 63) (slice_split (λ x. eqb x 46) s)
    ∙ ap (all (sized 1 63)) (split_parts s)
