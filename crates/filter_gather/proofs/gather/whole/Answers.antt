use mathlib.Core.Path.{sym, ap, ◌∙◌}
use Rattle.filter_gather.specs.Internal.Gather.{gathered_from}
use Rattle.filter_position.proofs.Laws.Position.{whole_wrong, whole-short, whole-filled}
use Rattle.filter_gather.proofs.gather.whole.Goals as goal

pub returns-in_default : goal.returns-in_default
returns-in_default c =
    let s = c.args.s.now in
    sym (ap (gathered_from s c.args.seen.now) (whole_wrong s (sym c.filter.ensures.value ∙ c.in_default.is)))

pub returns-then-read-end : goal.returns-then-read-end
returns-then-read-end c =
    let s = c.args.s.now in
    sym (ap (gathered_from s c.args.seen.now) (whole-short s c.in-Some.read (sym c.in-Some.ensures.value) c.if-read-end.true))

pub returns : goal.returns
returns c =
    let s = c.args.s.now in
    c.one_of.ensures ∙ sym (ap (gathered_from s c.args.seen.now) (whole-filled s c.in-Some.read (sym c.in-Some.ensures.value) c.if-read-end.false))
