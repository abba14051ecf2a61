use native.Mathlib.Omega.{arith}
use Rattle.transcode.proofs.Laws.Point16.{outside, inside, half_unit, plain_unit, low_unit_lem, high-alone, high-lone, pair_unit}
use Rattle.transcode.proofs.point16.point16_at.Goals as goal

pub returns-then-s-at-lt2 : goal.returns-then-s-at-lt2
returns-then-s-at-lt2 c =
    let a = c.args in
    half_unit a.s.now a.at (omega arith) (omega arith)

pub returns-then-unit : goal.returns-then-unit
returns-then-unit c =
    let a = c.args in
    let u = c.u16_at-unit in
    plain_unit a.s.now a.at u.result u.ensures (omega arith) (omega arith) (outside 0xD800 0xE000 u.result c.if-unit.true)

pub returns-then-unit-ge-FIRST_LOW : goal.returns-then-unit-ge-FIRST_LOW
returns-then-unit-ge-FIRST_LOW c =
    let a = c.args in
    let u = c.u16_at-unit in
    low_unit_lem a.s.now a.at u.result u.ensures (omega arith) (omega arith) (omega (arith, inside 0xD800 0xE000 u.result c.if-unit.false))

pub returns-then-s-at-lt4 : goal.returns-then-s-at-lt4
returns-then-s-at-lt4 c =
    let a = c.args in
    let u = c.u16_at-unit in
    high-alone a.s.now a.at u.result u.ensures (omega arith) (inside 0xD800 0xE000 u.result c.if-unit.false).0 (omega arith) (omega arith)

pub returns-then-low : goal.returns-then-low
returns-then-low c =
    let a = c.args in
    let u = c.u16_at-unit in
    let v = c.u16_at-low in
    let h = (inside 0xD800 0xE000 u.result c.if-unit.false).0 in
    high-lone a.s.now a.at u.result u.ensures (omega arith) h (omega arith) v.result v.ensures (outside 0xDC00 0xE000 v.result c.if-low.true)

pub returns : goal.returns
returns c =
    let a = c.args in
    let u = c.u16_at-unit in
    let v = c.u16_at-low in
    let h = (inside 0xD800 0xE000 u.result c.if-unit.false).0 in
    let k = inside 0xDC00 0xE000 v.result c.if-low.false in
    pair_unit a.s.now a.at u.result u.ensures (omega arith) h (omega arith) v.result v.ensures k.0 (omega arith)
