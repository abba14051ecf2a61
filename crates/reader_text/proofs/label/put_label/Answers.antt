use mathlib.Core.Path.{◌∙◌}
use native.Mathlib.Omega.{arith}
use lib.ListN.{length-set}
use Rattle.lent.specs.Internal.OverAt.{over_at}
use Rattle.reader_text.proofs.Laws.Label.{dot_laid}
use Rattle.reader_text.proofs.label.put_label.Goals as goal

pub put_octets-requires : goal.put_octets-requires
put_octets-requires c = omega arith

pub shape_of-text-then-spent-eq0 : goal.shape_of-text-then-spent-eq0
shape_of-text-then-spent-eq0 c = c.put_octets.auto.out

pub returns-then-spent-eq0 : goal.returns-then-spent-eq0
unfolding over_at
returns-then-spent-eq0 c = rw c.if-spent-eq0.true c.put_octets.ensures.out_after

pub put_octets_at-requires : goal.put_octets_at-requires
put_octets_at-requires c = simp length-set c.requires

pub shape_of-text : goal.shape_of-text
shape_of-text c = c.put_octets_at.auto.out ∙ simp length-set

pub returns : goal.returns
returns c =
    let a = c.args in
    c.put_octets_at.ensures.out_after ∙ dot_laid a.spent a.label.now a.text.now c.if-spent-eq0.false (omega (arith, c.requires))
