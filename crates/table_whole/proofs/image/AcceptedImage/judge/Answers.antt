use mathlib.Core.Path.{sym, ◌∙◌}
use Rattle.table_whole.proofs.Laws.Judgement.{passed_accepted}
use Rattle.table_whole.proofs.image.AcceptedImage.judge.Goals as goal

pub invariant_of-result : goal.invariant_of-result
invariant_of-result c = passed_accepted c.args.octets.now (sym c.in_ok-judge.was ∙ c.judge.ensures.same)
