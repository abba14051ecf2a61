use mathlib.Core.Path.{sym, ◌∙◌}
use borrow.Author.Tests.{not-true, not-false}
use Rattle.table_whole.proofs.Laws.Half.{bad-contexts, bad-sites, good_halves}
use Rattle.table_whole.proofs.whole.good_whole.Goals as goal

pub returns-then-not-is_context_half_good : goal.returns-then-not-is_context_half_good
returns-then-not-is_context_half_good c = bad-contexts _ (sym c.is_context_half_good.ensures ∙ not-true _ c.if-not-is_context_half_good.true-raw)

pub returns-then-not-is_site_half_good : goal.returns-then-not-is_site_half_good
returns-then-not-is_site_half_good c = bad-sites _ (sym c.is_context_half_good.ensures ∙ not-false _ c.if-not-is_context_half_good.false-raw) (sym c.is_site_half_good.ensures ∙ not-true _ c.if-not-is_site_half_good.true-raw)

pub returns : goal.returns
returns c = c.are_subnets_unique.ensures ∙ good_halves _ (sym c.is_context_half_good.ensures ∙ not-false _ c.if-not-is_context_half_good.false-raw) (sym c.is_site_half_good.ensures ∙ not-false _ c.if-not-is_site_half_good.false-raw)
