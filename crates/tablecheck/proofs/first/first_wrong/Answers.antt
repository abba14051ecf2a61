use Rattle.table.proofs.Laws.Table.{blocks_step, blocks_end}
use Rattle.table.specs.Block.{block_size, blocks_of}
use Rattle.table.specs.Internal.BlockAt.{block_at}
use Rattle.table.specs.Countings.{block_place}
use Rattle.table.specs.Server.{server_place}
use Rattle.tablecheck.proofs.Laws.First.{first_here, first_next, first-end}
use Rattle.tablecheck.specs.Internal.First.{keeps, first_wrong}
use borrow.Author.Rules.{rules}
use lib.ListN.{length, drop}
use native.Mathlib.Omega.{arith}
use Prim.Native.Nat.{◌+◌, ◌-◌, ◌/◌, ◌≤◌}
use mathlib.Core.Path.{◌≡◌, refl, sym, ap, ◌∙◌}
use Rattle.tablecheck.proofs.first.first_wrong.Goals as goal
use Rattle.tablecheck.proofs.first.first_wrong.Goals.{After-keeps_rule}

-- whether the block at i keeps the rule
judged : (c : After-keeps_rule)
    → keeps c.args.rule (block_place c.loop-i.i) (block_at c.args.image.now (block_place c.loop-i.i)) ≡ c.keeps_rule.result
judged c = ap (keeps c.args.rule (block_place c.loop-i.i)) (sym c.block_at.ensures) ∙ sym c.keeps_rule.ensures

pub loop-i-init : goal.loop-i-init
loop-i-init c = refl

pub overflow_cast-place : goal.overflow_cast-place
overflow_cast-place c = omega arith

pub returns-then-not-keeps_rule : goal.returns-then-not-keeps_rule
returns-then-not-keeps_rule c =
    let a = c.args in
    let s = a.image.now in
    let l = c.loop-i in
    first_here a.rule (block_place l.i) (block_at s (block_place l.i)) (drop (l.i + 1) (blocks_of s))
    (judged (goal.at.returns-then-not-keeps_rule c).After-keeps_rule ∙ c.if-not-keeps_rule.true)
    ∙ ap (first_wrong a.rule (block_place l.i)) (sym (blocks_step s l.i (omega arith)))
    ∙ l.invariant

pub loop-i-preserved : goal.loop-i-preserved
loop-i-preserved c =
    let a = c.args in
    let s = a.image.now in
    let l = c.loop-i in
    first_next a.rule (block_place l.i) (block_at s (block_place l.i)) (drop (l.i + 1) (blocks_of s))
    (judged (goal.at.loop-i-preserved c).After-keeps_rule ∙ c.if-not-keeps_rule.false)
    ∙ ap (first_wrong a.rule (block_place l.i)) (sym (blocks_step s l.i (omega arith)))
    ∙ l.invariant

pub returns : goal.returns
returns c =
    let a = c.args in
    let s = a.image.now in
    let l = c.loop-i in
    let e : l.i ≡ length s / block_size = omega arith in
    sym e
    ∙ first-end a.rule (block_place l.i)
    ∙ ap (first_wrong a.rule (block_place l.i)) (sym (blocks_end s l.i (omega arith)))
    ∙ l.invariant
