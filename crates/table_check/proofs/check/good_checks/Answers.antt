use Rattle.std.proofs.Common.{rules}
use borrow.Author.Tests.{tests}
use native.Mathlib.Omega.{arith}
use Rattle.table.specs.Block.{block_size, blocks_of}
use Rattle.table.proofs.Laws.Walks.{all_found, YieldsList-from_chunks_exact}
use Rattle.table_check.specs.Check.{good_check}
use Rattle.table_check.proofs.check.good_checks.Goals as goal

pub returns : goal.returns
unfolding blocks_of
returns c =
    all_found good_check _ _ _ c.all.ensures.ran (YieldsList-from_chunks_exact block_size (omega arith) c.args.image.now c.chunks_exact.ensures.rest c.chunks_exact.ensures.size)
    (λ x b q k. search (rules, tests))
