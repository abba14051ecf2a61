use mathlib.Core.Path.{ap, sym, ◌∙◌}
use native.Mathlib.Omega.{arith}
use lib.ListN.{length, get_or}
use Rattle.mailslot.specs.Internal.Shape.{EndsName}
use Rattle.mailslot.proofs.Laws.Name.{name-ends, name-short, name-found}
use Rattle.mailslot_read.proofs.Laws.Refused.{endless}
use borrow.Author.Rules.{rules}
use Rattle.mailslot_read.proofs.part.name_end.Goals as goal

pub returns-then-message-start : goal.returns-then-message-start
returns-then-message-start c =
    let a = c.args in
    let s = a.message.now in
    endless (EndsName s a.start) (length s) (λ end e. omega (arith, c.if-message-start.true, e.from, e.to))

pub returns-then-message-end : goal.returns-then-message-end
returns-then-message-end c =
    let a = c.args in
    let s = a.message.now in
    let run = c.name_run-end in
    endless (EndsName s a.start) (length s) (λ end e. omega (arith, name-ends s a.start run.result run.ensures end e, e.to))

pub returns-then-message-end-ne0 : goal.returns-then-message-end-ne0
returns-then-message-end-ne0 c =
    let a = c.args in
    let s = a.message.now in
    let run = c.name_run-end in
    endless (EndsName s a.start) (length s) (λ end e. c.if-message-end-ne0.true (ap (λ i. get_or s i 0) (sym (name-ends s a.start run.result run.ensures end e)) ∙ e.zero))

pub returns-then-end-start-gt-MAILSLOT_NAME_MOST : goal.returns-then-end-start-gt-MAILSLOT_NAME_MOST
returns-then-end-start-gt-MAILSLOT_NAME_MOST c =
    let a = c.args in
    let s = a.message.now in
    let run = c.name_run-end in
    endless (EndsName s a.start) (length s) (λ end e. omega (arith, name-ends s a.start run.result run.ensures end e, name-short s a.start end e))

pub returns : goal.returns
returns c =
    let a = c.args in
    let s = a.message.now in
    let run = c.name_run-end in
    record { to = run.ensures.to; found = λ h. name-found s a.start run.result run.ensures h (omega arith) (omega arith); only = λ end e. name-ends s a.start run.result run.ensures end e }
