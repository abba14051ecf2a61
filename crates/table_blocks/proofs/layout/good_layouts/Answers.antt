use Rattle.table.proofs.Laws.Table.{blocks_step, blocks_end}
use Rattle.table.specs.Block.{blocks_of}
use Rattle.table.specs.Internal.BlockAt.{block_at}
use Rattle.table.specs.Countings.{block_place}
use Rattle.table_blocks.proofs.Laws.Layout.{layouts_fail, layouts_next, layouts_end}
use Rattle.table_layout.specs.Layout.{block_layout, layouts_from}
use borrow.Author.Tests.{not-true, not-false}
use lib.ListN.{drop}
use native.Mathlib.Omega.{arith}
use Prim.Native.Nat.{◌+◌}
use mathlib.Core.Path.{◌≡◌, refl, sym, ap, ◌∙◌}
use Rattle.table_blocks.proofs.layout.good_layouts.Goals as goal
use Rattle.table_blocks.proofs.layout.good_layouts.Goals.{After-block_layout}

-- what the block at i is judged to be
judged : (c : After-block_layout)
    → block_layout (block_place c.loop-i.i) (block_at c.args.image.now (block_place c.loop-i.i)) ≡ c.block_layout.result
judged c = ap (block_layout (block_place c.loop-i.i)) (sym c.block_at.ensures) ∙ sym c.block_layout.ensures

pub overflow_cast-place : goal.overflow_cast-place
overflow_cast-place c = omega arith

pub returns-then-not-block_layout : goal.returns-then-not-block_layout
returns-then-not-block_layout c =
    let s = c.args.image.now in
    let l = c.loop-i in
    layouts_fail (block_place l.i) (block_at s (block_place l.i)) (drop (l.i + 1) (blocks_of s))
    (judged (goal.at.returns-then-not-block_layout c).After-block_layout ∙ not-true _ c.if-not-block_layout.true-raw)
    ∙ ap (layouts_from (block_place l.i)) (sym (blocks_step s l.i (omega arith)))
    ∙ l.invariant

pub loop-i-preserved : goal.loop-i-preserved
loop-i-preserved c =
    let s = c.args.image.now in
    let l = c.loop-i in
    layouts_next (block_place l.i) (block_at s (block_place l.i)) (drop (l.i + 1) (blocks_of s))
    (judged (goal.at.loop-i-preserved c).After-block_layout ∙ not-false _ c.if-not-block_layout.false-raw)
    ∙ ap (layouts_from (block_place l.i)) (sym (blocks_step s l.i (omega arith)))
    ∙ l.invariant

pub returns : goal.returns
returns c =
    let s = c.args.image.now in
    let l = c.loop-i in
    layouts_end (block_place l.i) ∙ ap (layouts_from (block_place l.i)) (sym (blocks_end s l.i (omega arith))) ∙ l.invariant
