use mathlib.Core.Path.{◌∙◌, sym}
use borrow.Author.Tests.{ne_eqb, eq-eqb}
use Rattle.table_find.proofs.Laws.Find.{compared-short, compared_other, compared_dots, compared_dot}
use Rattle.table_find.proofs.context.name_compared.Goals as goal

pub returns-then-count-lt2 : goal.returns-then-count-lt2
returns-then-count-lt2 c = sym (compared-short _ c.if-count-lt2.true)

pub returns-then-asked-count-ne-DOT : goal.returns-then-asked-count-ne-DOT
returns-then-asked-count-ne-DOT c = sym (compared_other _ c.if-count-lt2.false (ne_eqb _ 46 c.if-asked-count-ne-DOT.true))

pub returns-then-asked-count-eq-DOT : goal.returns-then-asked-count-eq-DOT
returns-then-asked-count-eq-DOT c = sym (compared_dots _ c.if-count-lt2.false (eq-eqb _ 46 c.if-asked-count-ne-DOT.false) (eq-eqb _ 46 c.if-asked-count-eq-DOT.true))

pub returns : goal.returns
returns c = c.part.ensures ∙ sym (compared_dot _ c.if-count-lt2.false (eq-eqb _ 46 c.if-asked-count-ne-DOT.false) (ne_eqb _ 46 c.if-asked-count-eq-DOT.false))
