use Rattle.std.proofs.Common.{◌≤◌}
use Rattle.vectors.proofs.input.answer_all.Given as goal

abbrev pub invariant-loop : goal.invariant-loop
invariant-loop g l = l.len ≤ 140101
