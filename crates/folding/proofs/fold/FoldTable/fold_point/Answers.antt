use Rattle.std.proofs.Common.{List, ℕ, sym, ap, ◌∙◌}
use lib.ListN.{get_or}
use Rattle.octets.proofs.Laws.Fold.{fold_below, fold_past}
use Rattle.folding.proofs.fold.FoldTable.fold_point.Goals as goal

pub returns-then-at-lt-FOLD_END-clause-value : goal.returns-then-at-lt-FOLD_END-clause-value
returns-then-at-lt-FOLD_END-clause-value c =
    let point = c.args.point in
    c.entry_point.ensures.0 ∙ ap (λ (entries : List ℕ). get_or entries point 0) c.args.self.now.is_unicode ∙ sym (fold_below point c.if-at-lt-FOLD_END.true)

pub returns-clause-value : goal.returns-clause-value
returns-clause-value c = sym (fold_past c.args.point c.if-at-lt-FOLD_END.false)
