use Rattle.table_whole.proofs.Laws.Judgement.{length_below, length_above, length-between}
use Rattle.table_whole.proofs.judge.has_good_length.Goals as goal

pub returns-then-image-lt-IMAGE_LEAST : goal.returns-then-image-lt-IMAGE_LEAST
returns-then-image-lt-IMAGE_LEAST c = length_below _ c.if-image-lt-IMAGE_LEAST.true

pub returns-then-image-gt-IMAGE_MOST : goal.returns-then-image-gt-IMAGE_MOST
returns-then-image-gt-IMAGE_MOST c = length_above _ c.if-image-lt-IMAGE_LEAST.false c.if-image-gt-IMAGE_MOST.true

pub returns : goal.returns
returns c = length-between _ c.if-image-lt-IMAGE_LEAST.false c.if-image-gt-IMAGE_MOST.false
