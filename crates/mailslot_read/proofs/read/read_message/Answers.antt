use mathlib.Core.Path.{sym, ◌∙◌}
use native.Mathlib.Omega.{arith}
use Rattle.answers.specs.declared.Refusal.TheVariants.{MailslotShape}
use Rattle.std.proofs.Common.{Err}
use Rattle.mailslot.proofs.Laws.Longest.{text-most, read-most}
use Rattle.mailslot.proofs.Laws.User.{octets_known, computer-most}
use Rattle.mailslot_read.proofs.Laws.Refused.{promised, shapeless, computer-same, mailslot-same, texts-good, Found}
use borrow.Author.Rules.{rules}
use Rattle.mailslot_read.proofs.read.read_message.Goals as goal

pub returns-then-message-gt-MESSAGE_MOST : goal.returns-then-message-gt-MESSAGE_MOST
returns-then-message-gt-MESSAGE_MOST c =
    let s = c.args.message.now in
    promised s (Err MailslotShape) (shapeless s (λ p. omega (arith, read-most s p, c.if-message-gt-MESSAGE_MOST.true)))

pub returns-then-message-lt-TEXTS_AT : goal.returns-then-message-lt-TEXTS_AT
returns-then-message-lt-TEXTS_AT c =
    let s = c.args.message.now in
    promised s (Err MailslotShape) (shapeless s (λ p. omega (arith, p.texts.computer_ends.from, p.texts.computer_ends.to, c.if-message-lt-TEXTS_AT.true)))

pub returns-then-u16_at-ne-LOGON_SAM_LOGON_REQUEST : goal.returns-then-u16_at-ne-LOGON_SAM_LOGON_REQUEST
returns-then-u16_at-ne-LOGON_SAM_LOGON_REQUEST c =
    let s = c.args.message.now in
    promised s (Err MailslotShape) (shapeless s (λ p. c.if-u16_at-ne-LOGON_SAM_LOGON_REQUEST.true (c.u16_at.ensures ∙ p.texts.opcode)))

pub returns-then-message-mailslot_end : goal.returns-then-message-mailslot_end
returns-then-message-mailslot_end c =
    let s = c.args.message.now in
    let e = c.text_end-computer_end in
    let u = c.text_end-user_end in
    let a = c.name_end-mailslot_end in
    let f : Found s e.result u.result a.result = record { octets = octets_known s c.first_octet-octet.ensures; computer_end_lem = e.ensures; user_end_lem = u.ensures; mailslot_end_lem = a.ensures } in
    promised s (Err MailslotShape) (shapeless s (λ p. omega (arith, mailslot-same s e.result u.result a.result f p, p.texts.mailslot_ends.to, c.if-message-mailslot_end.true)))

pub returns-then-computer_end : goal.returns-then-computer_end
returns-then-computer_end c =
    let s = c.args.message.now in
    let e = c.text_end-computer_end in
    let u = c.text_end-user_end in
    let a = c.name_end-mailslot_end in
    let f : Found s e.result u.result a.result = record { octets = octets_known s c.first_octet-octet.ensures; computer_end_lem = e.ensures; user_end_lem = u.ensures; mailslot_end_lem = a.ensures } in
    promised s (Err MailslotShape) (shapeless s (λ p. omega (arith, computer-same s e.result u.result a.result f p, text-most 30 computer-most p.texts.computer_ends, c.if-computer_end.true)))

pub read_numbers-requires : goal.read_numbers-requires
read_numbers-requires c =
    let s = c.args.message.now in
    let e = c.text_end-computer_end in
    let u = c.text_end-user_end in
    let a = c.name_end-mailslot_end in
    let f : Found s e.result u.result a.result = record { octets = octets_known s c.first_octet-octet.ensures; computer_end_lem = e.ensures; user_end_lem = u.ensures; mailslot_end_lem = a.ensures } in
    (omega arith, c.first_octet-octet.ensures, texts-good s e.result u.result a.result f (sym c.u16_at.ensures ∙ c.if-u16_at-ne-LOGON_SAM_LOGON_REQUEST.false) (omega arith) (omega arith))

pub returns : goal.returns
returns c = promised c.args.message.now c.read_numbers.result c.read_numbers.ensures
