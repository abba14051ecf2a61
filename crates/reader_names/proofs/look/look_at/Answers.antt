use mathlib.Core.Path.{◌≡◌, sym, ap, ◌∙◌}
use Prim.Native.Nat.{ℕ, ◌/◌, ◌*◌, ◌%◌}
use native.Mathlib.Omega.{arith}
use lib.ListN.{get_or}
use lib.Bits.{bit_and}
use Rattle.names.specs.Walk.{aim}
use Rattle.names.proofs.Laws.Walk.{look_end, look_label, look_pointer}
use Rattle.reader_names.proofs.Laws.Look.{top_bits, offset-bits, look_past, look_reserved, look_half}
use Rattle.reader_names.proofs.look.look_at.Goals as goal

pub returns-then-reply-at : goal.returns-then-reply-at
returns-then-reply-at c =
    let a = c.args in
    sym (look_past a.reply.now a.at c.if-reply-at.true)

pub returns-then-first-eq0 : goal.returns-then-first-eq0
returns-then-first-eq0 c =
    let a = c.args in
    sym (look_end a.reply.now a.at (omega arith, c.if-first-eq0.true))

pub returns-then-top-eq0 : goal.returns-then-top-eq0
returns-then-top-eq0 c =
    let a = c.args in
    let x : ℕ = get_or a.reply.now a.at 0 in
    let m : bit_and x 0xC0 ≡ x / 64 * 64 = top_bits x (omega (arith, c.type_inv.reply a.at)) in
    sym (look_label a.reply.now a.at c.wide.result (omega arith, sym c.wide.ensures.0, omega (arith, c.wide.ensures.0), omega (arith, c.wide.ensures.0)))

pub returns-then-top : goal.returns-then-top
returns-then-top c =
    let a = c.args in
    let x : ℕ = get_or a.reply.now a.at 0 in
    let m : bit_and x 0xC0 ≡ x / 64 * 64 = top_bits x (omega (arith, c.type_inv.reply a.at)) in
    sym (look_reserved a.reply.now a.at (omega arith) (λ q. omega arith) (λ q. omega arith))

pub returns-then-reply-at-lt2 : goal.returns-then-reply-at-lt2
returns-then-reply-at-lt2 c =
    let a = c.args in
    let x : ℕ = get_or a.reply.now a.at 0 in
    let m : bit_and x 0xC0 ≡ x / 64 * 64 = top_bits x (omega (arith, c.type_inv.reply a.at)) in
    sym (look_half a.reply.now a.at (omega arith) (omega arith) (omega arith))

pub overflow_cast-result-2 : goal.overflow_cast-result-2
overflow_cast-result-2 c = omega (arith, offset-bits c.big_u16_at.result)

pub returns : goal.returns
returns c =
    let a = c.args in
    let x : ℕ = get_or a.reply.now a.at 0 in
    let m : bit_and x 0xC0 ≡ x / 64 * 64 = top_bits x (omega (arith, c.type_inv.reply a.at)) in
    let t : aim a.reply.now a.at ≡ bit_and c.big_u16_at.result 0x3FFF = ap (λ (n : ℕ). n % 0x4000) (sym c.big_u16_at.ensures) ∙ sym (offset-bits c.big_u16_at.result) in
    sym (look_pointer a.reply.now a.at (bit_and c.big_u16_at.result 0x3FFF) (omega arith, omega arith, t))
