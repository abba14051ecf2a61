use native.Mathlib.Omega.{arith}
use Rattle.transcode.proofs.Laws.Point16.{outside, inside}
use Rattle.mailslot.proofs.Laws.Character.{zero-lacks, plain_stands, octet_alone, two-octets, three_octets}
use borrow.Author.Rules.{rules}
use Rattle.mailslot.proofs.text.character_size.Goals as goal

pub returns-then-unit-eq0 : goal.returns-then-unit-eq0
returns-then-unit-eq0 c =
    let a = c.args in
    let u = c.u16_at-unit in
    zero-lacks a.s.now a.at u.result u.ensures (omega arith) c.if-unit-eq0.true

pub returns-then-unit-lt128 : goal.returns-then-unit-lt128
returns-then-unit-lt128 c =
    let a = c.args in
    let u = c.u16_at-unit in
    plain_stands a.s.now a.at u.result u.ensures (omega arith) 1 (omega arith) (λ h. omega arith) (octet_alone u.result (omega arith)) (omega arith)

pub returns-then-unit-lt2048 : goal.returns-then-unit-lt2048
returns-then-unit-lt2048 c =
    let a = c.args in
    let u = c.u16_at-unit in
    plain_stands a.s.now a.at u.result u.ensures (omega arith) 2 (omega arith) (λ h. omega arith) (two-octets u.result (omega arith) (omega arith)) (omega arith)

pub returns-then-unit : goal.returns-then-unit
returns-then-unit c =
    let a = c.args in
    let u = c.u16_at-unit in
    let o = outside 0xD800 0xE000 u.result c.if-unit.true in
    plain_stands a.s.now a.at u.result u.ensures (omega arith) 3 (omega arith) o (three_octets u.result (omega arith) (omega arith)) (omega arith)

pub pair_size-requires : goal.pair_size-requires
pair_size-requires c =
    let u = c.u16_at-unit in
    let surrogate = inside 0xD800 0xE000 u.result c.if-unit.false in
    (omega arith, u.ensures, surrogate.0, surrogate.1)
