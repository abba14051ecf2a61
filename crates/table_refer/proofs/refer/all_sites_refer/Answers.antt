use Rattle.std.proofs.Common.{rules}
use Rattle.std.proofs.lemmas.Iterator.{YieldsList-from_slice}
use borrow.Author.Tests.{tests}
use Rattle.table.proofs.Laws.Walks.{all_found}
use Rattle.table_refer.specs.Internal.Refer.{site_refers_at}
use Rattle.table_refer.proofs.refer.all_sites_refer.Goals as goal

pub returns : goal.returns
returns c =
    let a = c.args in
    all_found (site_refers_at a.marks.now a.image.now) _ _ _ c.all.ensures.ran (YieldsList-from_slice a.sites.now cc)
    (λ x b q k. search (rules, tests))
