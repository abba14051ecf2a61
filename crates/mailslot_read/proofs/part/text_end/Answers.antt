use mathlib.Core.Path.{ap, sym, ◌∙◌}
use native.Mathlib.Omega.{arith}
use lib.ListN.{length}
use Rattle.octets.specs.Number.{u16_at}
use Rattle.mailslot.specs.Message.{is_message_user}
use Rattle.mailslot.specs.Internal.Shape.{EndsText}
use Rattle.mailslot.proofs.Laws.Run.{text-ends}
use Rattle.mailslot_read.proofs.Laws.Refused.{endless}
use borrow.Author.Rules.{rules}
use Rattle.mailslot_read.proofs.part.text_end.Goals as goal

pub returns-then-message-start : goal.returns-then-message-start
returns-then-message-start c =
    let a = c.args in
    let s = a.message.now in
    endless (EndsText is_message_user s a.start) (length s) (λ end e. omega (arith, c.if-message-start.true, e.from, e.to))

pub returns-then-message-end-lt2 : goal.returns-then-message-end-lt2
returns-then-message-end-lt2 c =
    let a = c.args in
    let s = a.message.now in
    let run = c.text_run-end in
    endless (EndsText is_message_user s a.start) (length s) (λ end e. omega (arith, text-ends s a.start run.result run.ensures end e, e.to))

pub returns-then-u16_at-ne0 : goal.returns-then-u16_at-ne0
returns-then-u16_at-ne0 c =
    let a = c.args in
    let s = a.message.now in
    let run = c.text_run-end in
    endless (EndsText is_message_user s a.start) (length s) (λ end e. c.if-u16_at-ne0.true (c.u16_at.ensures ∙ ap (u16_at s) (sym (text-ends s a.start run.result run.ensures end e)) ∙ e.zero))

pub returns : goal.returns
returns c =
    let a = c.args in
    let s = a.message.now in
    let run = c.text_run-end in
    record {
      to = run.ensures.to;
      found = λ h. record { from = run.ensures.from; to = omega arith; zero = sym c.u16_at.ensures ∙ c.if-u16_at-ne0.false; text = run.ensures.user };
      only = λ end e. text-ends s a.start run.result run.ensures end e;
    }
