use mathlib.Core.Path.{refl, ap, ◌∙◌}
use Rattle.octets.specs.Fold.{fold_pairs, fold_from, fold_table_lem}
use Rattle.std.specs.Ordering.{is_eq}
use Rattle.account_names.proofs.compare.same_rest.Goals as goal

pub invariant_of-fold_table : goal.invariant_of-fold_table
unfolding fold_pairs fold_from fold_table_lem
invariant_of-fold_table c = record { is_unicode = refl }

pub returns : goal.returns
returns c = c.is_eq.ensures ∙ ap is_eq c.compare_from.ensures
