use native.Mathlib.Omega.{arith}
use Rattle.account_names.proofs.compare.rank_of.Goals as goal

pub overflow_add-result : goal.overflow_add-result
overflow_add-result c = omega (arith, c.fold_point.ensures.upper_bound c.if-point-ge-NO_POINT.false)
