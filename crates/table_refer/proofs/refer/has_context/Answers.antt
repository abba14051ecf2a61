use Rattle.std.proofs.Common.{rules}
use Rattle.std.proofs.lemmas.Iterator.{YieldsList-from_slice}
use borrow.Author.Tests.{tests}
use Rattle.table.specs.declared.record.RecordKind.TheVariants as kind
use Rattle.table.specs.Context.{context_of}
use Rattle.table.specs.Countings.{same_context}
use Rattle.table.specs.Internal.RecordAt.{record_at}
use Rattle.table.proofs.Laws.Walks.{any_found}
use Rattle.table_refer.specs.Internal.Refer.{has_number}
use Rattle.table_refer.proofs.refer.has_context.Goals as goal

pub returns : goal.returns
unfolding has_number
returns c =
    let a = c.args in
    any_found (λ q. same_context (context_of (record_at a.image.now kind.Context q)).number a.number) _ _ _ c.any.ensures.ran (YieldsList-from_slice a.contexts.now cc)
    (λ x b q k. search (rules, tests))
