use Rattle.std.proofs.Common.{rules}
use Rattle.std.proofs.lemmas.Iterator.{YieldsList-from_slice}
use borrow.Author.Tests.{tests}
use Rattle.table.proofs.Laws.Walks.{all_found}
use Rattle.table_refer.specs.Internal.Refer.{in_contexts}
use Rattle.table_refer.proofs.refer.are_in_contexts.Goals as goal

pub returns : goal.returns
returns c =
    let a = c.args in
    all_found (in_contexts a.image.now a.contexts.now) _ _ _ c.all.ensures.ran (YieldsList-from_slice a.accounts.now cc)
    (λ x b q k. search (rules, tests))
