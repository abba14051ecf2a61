use Rattle.std.proofs.Common.{◌∙◌, arith}
use Rattle.table_whole.proofs.Laws.Half.{no_context, many-contexts, some-contexts}
use Rattle.table_whole.proofs.whole.is_context_half_good.Goals as goal

pub returns-then-count-eq0 : goal.returns-then-count-eq0
returns-then-count-eq0 c = no_context c.args.image.now _ c.offsets_in-contexts.ensures.records c.if-count-eq0.true

pub returns-then-count-gt16 : goal.returns-then-count-gt16
returns-then-count-gt16 c = many-contexts c.args.image.now _ c.offsets_in-contexts.ensures.records (omega arith)

pub returns : goal.returns
returns c = c.are_contexts_good.ensures ∙ some-contexts c.args.image.now _ c.offsets_in-contexts.ensures.records c.if-count-eq0.false (omega arith)
