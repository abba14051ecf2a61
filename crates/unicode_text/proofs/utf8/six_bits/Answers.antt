use mathlib.Core.Path.{refl}
use native.Mathlib.Omega.{arith}
use borrow.Author.Tests.{le-leb, lt-leb}
use Rattle.unicode_text.proofs.utf8.six_bits.Goals as goal

pub returns-then-x-low : goal.returns-then-x-low
returns-then-x-low c = (λ h. absurd (omega (arith, h)), λ h. rw (lt-leb _ _ c.if-x-low.true))

pub returns-then-high-x : goal.returns-then-high-x
returns-then-high-x c = (λ h. absurd (omega (arith, h)), λ h. rw (le-leb _ _ c.if-x-low.false, lt-leb _ _ c.if-high-x.true))

pub returns : goal.returns
returns c = (λ h. (rw (le-leb _ _ c.if-x-low.false, le-leb _ _ c.if-high-x.false), refl), λ h. absurd (omega (arith, h)))
