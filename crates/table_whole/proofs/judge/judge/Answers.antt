use Rattle.table_whole.proofs.Laws.Judgement.{length_bounds, refused-length, refused_check, refused_layout, refused-whole, passed, judge_promised}
use borrow.Author.Tests.{not-true, not-false}
use mathlib.Core.Path.{sym, ◌∙◌}
use native.Mathlib.Omega.{arith}
use Rattle.table_whole.proofs.judge.judge.Goals as goal

pub returns-then-not-has_good_length : goal.returns-then-not-has_good_length
returns-then-not-has_good_length c = judge_promised _ _ (refused-length _ (sym c.has_good_length.ensures ∙ not-true _ c.if-not-has_good_length.true-raw))

pub returns-then-not-good_checks : goal.returns-then-not-good_checks
returns-then-not-good_checks c = judge_promised _ _ (refused_check _ (sym c.has_good_length.ensures ∙ not-false _ c.if-not-has_good_length.false-raw) (sym c.good_checks.ensures ∙ not-true _ c.if-not-good_checks.true-raw))

pub good_layouts-requires : goal.good_layouts-requires
good_layouts-requires c = (length_bounds _ (sym c.has_good_length.ensures ∙ not-false _ c.if-not-has_good_length.false-raw)).1

pub returns-then-not-good_layouts : goal.returns-then-not-good_layouts
returns-then-not-good_layouts c = judge_promised _ _ (refused_layout _ (sym c.has_good_length.ensures ∙ not-false _ c.if-not-has_good_length.false-raw) (sym c.good_checks.ensures ∙ not-false _ c.if-not-good_checks.false-raw) (sym c.good_layouts.ensures ∙ not-true _ c.if-not-good_layouts.true-raw))

pub good_whole-requires : goal.good_whole-requires
good_whole-requires c =
    let ends = length_bounds _ (sym c.has_good_length.ensures ∙ not-false _ c.if-not-has_good_length.false-raw) in
    (omega (arith, ends.0), ends.1)

pub returns-then-not-good_whole : goal.returns-then-not-good_whole
returns-then-not-good_whole c = judge_promised _ _ (refused-whole _ (sym c.has_good_length.ensures ∙ not-false _ c.if-not-has_good_length.false-raw) (sym c.good_checks.ensures ∙ not-false _ c.if-not-good_checks.false-raw) (sym c.good_layouts.ensures ∙ not-false _ c.if-not-good_layouts.false-raw) (sym c.good_whole.ensures ∙ not-true _ c.if-not-good_whole.true-raw))

pub returns : goal.returns
returns c = judge_promised _ _ (passed _ (sym c.has_good_length.ensures ∙ not-false _ c.if-not-has_good_length.false-raw) (sym c.good_checks.ensures ∙ not-false _ c.if-not-good_checks.false-raw) (sym c.good_layouts.ensures ∙ not-false _ c.if-not-good_layouts.false-raw) (sym c.good_whole.ensures ∙ not-false _ c.if-not-good_whole.false-raw))
