use borrow.Author.Tests.{le-leb, lt-leb}
use borrow.Author.Rules.{rules}
use Rattle.bench.proofs.bench_checks.Goals as goal

pub returns-then-image-gt-IMAGE_MOST : goal.returns-then-image-gt-IMAGE_MOST
returns-then-image-gt-IMAGE_MOST c = rw (lt-leb _ 65536 c.if-image-gt-IMAGE_MOST.true)

pub returns : goal.returns
returns c = rw (le-leb _ 65536 c.if-image-gt-IMAGE_MOST.false) c.good_checks.ensures
