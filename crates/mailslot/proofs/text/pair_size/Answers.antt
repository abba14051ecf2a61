use native.Mathlib.Omega.{arith}
use Rattle.transcode.proofs.Laws.Point16.{outside, inside}
use Rattle.mailslot.proofs.Laws.Character.{low-lacks, high-alone, high-lone, pair_stands}
use borrow.Author.Rules.{rules}
use Rattle.mailslot.proofs.text.pair_size.Goals as goal

pub returns-then-unit-ge-FIRST_LOW : goal.returns-then-unit-ge-FIRST_LOW
returns-then-unit-ge-FIRST_LOW c =
    let a = c.args in
    low-lacks a.s.now a.at a.unit c.requires.1 (omega arith) c.if-unit-ge-FIRST_LOW.true (omega arith)

pub returns-then-s-at-lt4 : goal.returns-then-s-at-lt4
returns-then-s-at-lt4 c =
    let a = c.args in
    high-alone a.s.now a.at a.unit c.requires.1 (omega arith) (omega arith) (omega arith) (omega arith)

pub returns-then-low : goal.returns-then-low
returns-then-low c =
    let a = c.args in
    let v = c.u16_at-low in
    high-lone a.s.now a.at a.unit c.requires.1 (omega arith) (omega arith) (omega arith) v.result v.ensures (λ h. outside 0xDC00 0xE000 v.result c.if-low.true h)

pub returns : goal.returns
returns c =
    let a = c.args in
    let v = c.u16_at-low in
    let low = inside 0xDC00 0xE000 v.result c.if-low.false in
    pair_stands a.s.now a.at a.unit c.requires.1 (omega arith) (omega arith) (omega arith) v.result v.ensures low.0 (omega arith)
