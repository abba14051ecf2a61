use Rattle.std.proofs.Common.{rules}
use native.Mathlib.Omega.{arith}
use mathlib.Core.Path.{◌∙◌, ap}
use Prim.Native.Nat.{ℕ, ◌/◌}
use Rattle.octets.specs.Lists.{all, pieces}
use borrow.Author.Tests.{tests}
use Rattle.table.proofs.Laws.Walks.{all_found, YieldsList-from_chunks_exact}
use Rattle.table_refer.specs.Internal.Refer.{subnet_refers}
use Rattle.table_refer.proofs.refer.all_records_refer.Goals as goal

pub returns : goal.returns
returns c =
    let a = c.args in
    all_found (subnet_refers a.marks.now) _ _ _ c.all.ensures.ran (YieldsList-from_chunks_exact 12 (omega arith) a.body.now c.chunks_exact.ensures.rest c.chunks_exact.ensures.size)
    (λ x b q k. search (rules, tests))
    ∙ ap (λ (n : ℕ). all (subnet_refers a.marks.now) (pieces (n / 12) 12 a.body.now)) c.requires
