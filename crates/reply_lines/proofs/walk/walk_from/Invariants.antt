use Rattle.names.proofs.Laws.Walk.{bound}
use Rattle.reply_lines.proofs.walk.walk_from.Given as goal

abbrev pub decreases-loop-step : goal.decreases-loop-step
decreases-loop-step g l = bound l.reply l.run l.at
