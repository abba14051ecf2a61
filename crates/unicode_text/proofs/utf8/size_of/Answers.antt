use borrow.Author.Tests.{lt-ltb, le-ltb}
use Rattle.unicode_text.proofs.utf8.size_of.Goals as goal

pub returns-then-lead-lt128 : goal.returns-then-lead-lt128
returns-then-lead-lt128 c = rw (lt-ltb _ _ c.if-lead-lt128.true)

pub returns-then-lead-lt224 : goal.returns-then-lead-lt224
returns-then-lead-lt224 c = rw (le-ltb _ _ c.if-lead-lt128.false, lt-ltb _ _ c.if-lead-lt224.true)

pub returns-then-lead-lt240 : goal.returns-then-lead-lt240
returns-then-lead-lt240 c = rw (le-ltb _ _ c.if-lead-lt128.false, le-ltb _ _ c.if-lead-lt224.false, lt-ltb _ _ c.if-lead-lt240.true)

pub returns : goal.returns
returns c = rw (le-ltb _ _ c.if-lead-lt128.false, le-ltb _ _ c.if-lead-lt224.false, le-ltb _ _ c.if-lead-lt240.false)
