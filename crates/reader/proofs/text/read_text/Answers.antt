use Rattle.std.proofs.Common.{Err, rules}
use mathlib.Core.Path.{◌≡◌, sym}
use Rattle.reader.specs.Internal.Text.{unit_step}
use Rattle.reader.proofs.Laws.Text.{text-start, text_stop, text-refused, text_go}
use Rattle.reader.proofs.text.read_text.Goals as goal

pub loop-next-init : goal.loop-next-init
loop-next-init c = text-start c.args.reply.now c.args.start

pub returns-in_err-next : goal.returns-in_err-next
returns-in_err-next c =
    let a = c.args in
    let e : unit_step a.reply.now c.loop-next.at c.loop-next.pending ≡ Err c.in_err-next.field-0.0 = search rules in
    rw (text-refused a.reply.now a.start c.loop-next.invariant _ e) (search rules)

pub returns-in-Stop : goal.returns-in-Stop
returns-in-Stop c =
    let a = c.args in
    sym (text_stop a.reply.now a.start c.loop-next.invariant c.in-Stop.next (search rules))

pub loop-next-preserved : goal.loop-next-preserved
loop-next-preserved c =
    let a = c.args in
    text_go a.reply.now a.start c.loop-next.invariant c.in-Go.after_high c.in-Go.next (search rules) (search rules) (search rules)
