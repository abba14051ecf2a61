use Rattle.std.proofs.Common.{refl}
use Rattle.octets.specs.Fold.{fold_pairs, fold_from, fold_table_lem}
use Rattle.table_unique.proofs.Laws.Neighbours.{few-unique}
use Rattle.table_unique.proofs.unique.are_accounts_unique.Goals as goal

pub returns-then-accounts-lt2 : goal.returns-then-accounts-lt2
returns-then-accounts-lt2 c = few-unique _ _ c.if-accounts-lt2.true

pub invariant_of-fold_table : goal.invariant_of-fold_table
unfolding fold_pairs fold_from fold_table_lem
invariant_of-fold_table c = record { is_unicode = refl }
