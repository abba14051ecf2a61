use Rattle.std.proofs.Common.{rules}
use native.Mathlib.Omega.{arith}
use borrow.Author.Tests.{tests}
use Rattle.table.specs.Block.{block_size, blocks_of}
use Rattle.table.proofs.Laws.Walks.{all_found, YieldsList-from_chunks_exact}
use Rattle.table_refer.specs.Internal.Refer.{subnets_refer}
use Rattle.table_refer.proofs.refer.all_subnets_refer.Goals as goal

pub returns : goal.returns
unfolding blocks_of
returns c =
    let a = c.args in
    all_found (subnets_refer a.marks.now) _ _ _ c.all.ensures.ran (YieldsList-from_chunks_exact block_size (omega arith) a.image.now c.chunks_exact.ensures.rest c.chunks_exact.ensures.size)
    (λ x b q k. search (rules, tests))
