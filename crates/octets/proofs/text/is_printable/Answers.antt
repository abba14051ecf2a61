use mathlib.Core.Path.{◌∙◌}
use borrow.Author.Rules.{rules}
use borrow.Author.Tests.{tests}
use Rattle.std.proofs.lemmas.Iterator.{YieldsList-from_slice}
use Rattle.std.proofs.lemmas.Iterator.Search.{all_from_yields_List}
use Rattle.octets.specs.Text.{is_printable}
use Rattle.octets.proofs.Laws.Lists.{list_all_is}
use Rattle.octets.proofs.text.is_printable.Goals as goal

pub returns : goal.returns
returns c =
    all_from_yields_List is_printable _ _ _ c.all.ensures.ran (YieldsList-from_slice c.args.s.now c.iter.ensures.rest) (λ x b q k. search (rules, tests))
    ∙ list_all_is is_printable c.args.s.now
