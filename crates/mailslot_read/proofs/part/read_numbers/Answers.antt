use mathlib.Core.Path.{sym, ap, ◌∙◌}
use native.Mathlib.Omega.{arith}
use borrow.Author.Tests.{not-true, not-false}
use Rattle.octets.proofs.Laws.Lists.{true_not_false}
use Rattle.mailslot.specs.Internal.Shape.{is_sid_size}
use Rattle.mailslot.proofs.Laws.User.{octets_known}
use Rattle.mailslot_read.proofs.Laws.Refused.{numberless, tailless, tail_read}
use borrow.Author.Rules.{rules}
use Rattle.mailslot_read.proofs.part.read_numbers.Goals as goal

pub returns-then-message-bits_at-lt-NUMBERS_SIZE : goal.returns-then-message-bits_at-lt-NUMBERS_SIZE
returns-then-message-bits_at-lt-NUMBERS_SIZE c =
    let a = c.args in
    let s = a.message.now in
    let pre = c.requires in
    numberless s a.computer_end a.user_end a.mailslot_end (octets_known s pre.1) pre.2 (λ sid n. omega (arith, pre.2.mailslot_ends.to, n.sid_starts, n.ends, c.if-message-bits_at-lt-NUMBERS_SIZE.true))

pub returns-then-not-is_sid_size : goal.returns-then-not-is_sid_size
returns-then-not-is_sid_size c =
    let a = c.args in
    let s = a.message.now in
    let pre = c.requires in
    let z = c.u32_at-size in
    let d = c.sid_padding in
    let size = c.is_sid_size in
    tailless s a.computer_end a.user_end a.mailslot_end (octets_known s pre.1) pre.2 z.result d.result z.ensures d.ensures.0
    (λ x. true_not_false (sym x.sized ∙ ap (is_sid_size z.result) (sym c.octet_at.ensures) ∙ sym size.ensures ∙ not-true size.result c.if-not-is_sid_size.true-raw))

pub returns-then-version_at-message : goal.returns-then-version_at-message
returns-then-version_at-message c =
    let a = c.args in
    let s = a.message.now in
    let pre = c.requires in
    let z = c.u32_at-size in
    let d = c.sid_padding in
    tailless s a.computer_end a.user_end a.mailslot_end (octets_known s pre.1) pre.2 z.result d.result z.ensures d.ensures.0 (λ x. c.if-version_at-message.true x.ends)

pub returns-then-not-has_tokens : goal.returns-then-not-has_tokens
returns-then-not-has_tokens c =
    let a = c.args in
    let s = a.message.now in
    let pre = c.requires in
    let z = c.u32_at-size in
    let d = c.sid_padding in
    let tokens = c.has_tokens in
    tailless s a.computer_end a.user_end a.mailslot_end (octets_known s pre.1) pre.2 z.result d.result z.ensures d.ensures.0 (λ x. true_not_false (sym x.tokens ∙ sym tokens.ensures ∙ not-true tokens.result c.if-not-has_tokens.true-raw))

pub returns : goal.returns
returns c =
    let a = c.args in
    let s = a.message.now in
    let pre = c.requires in
    let z = c.u32_at-size in
    let d = c.sid_padding in
    let size = c.is_sid_size in
    let tokens = c.has_tokens in
    tail_read s a.computer_end a.user_end a.mailslot_end (octets_known s pre.1) pre.2 z.result d.result z.ensures d.ensures.0
    (record {
      sized = ap (is_sid_size z.result) (sym c.octet_at.ensures) ∙ sym size.ensures ∙ not-false size.result c.if-not-is_sid_size.false-raw;
      ends = c.if-version_at-message.false;
      tokens = sym tokens.ensures ∙ not-false tokens.result c.if-not-has_tokens.false-raw;
    })
    c.u16_at.result c.u32_at.result c.u32_at-2.result c.u16_at.ensures c.u32_at.ensures c.u32_at-2.ensures
