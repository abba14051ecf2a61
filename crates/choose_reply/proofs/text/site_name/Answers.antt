use native.Mathlib.Omega.{arith}
use Rattle.table.specs.Site.{site_of}
use Rattle.choose_reply.proofs.text.site_name.Goals as goal

pub invariant_of-result : goal.invariant_of-result
invariant_of-result c = record { short = omega arith }

pub text_stretch-requires : goal.text_stretch-requires
text_stretch-requires c = let lies = rw c.in-Some.is at c.requires in (lies, omega arith, omega arith)

pub returns : goal.returns
unfolding site_of
returns c = λ request. rw c.in-Some.is (c.text_stretch.ensures request)
