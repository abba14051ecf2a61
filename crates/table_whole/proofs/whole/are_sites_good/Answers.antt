use mathlib.Core.Path.{sym, subst, ◌∙◌}
use mathlib.Core.List.{[]}
use borrow.Author.Tests.{not-true, not-false}
use Rattle.table_refer.specs.Internal.Mark.{Marked}
use Rattle.table_refer.proofs.Laws.Mark.{marked_none}
use Rattle.table_whole.proofs.Laws.Half.{sites_twice, site_marks, sites-once}
use Rattle.table_whole.proofs.whole.are_sites_good.Goals as goal

pub mark_sites-requires : goal.mark_sites-requires
mark_sites-requires c = subst (λ m. Marked m c.args.image.now []) (sym c.new-marks.ensures) (marked_none c.args.image.now)

pub returns-then-not-mark_sites : goal.returns-then-not-mark_sites
returns-then-not-mark_sites c =
    let s = c in
    sites_twice s.args.image.now s.args.sites.now s.requires.2 (sym c.mark_sites.ensures.value ∙ not-true _ c.if-not-mark_sites.true-raw)

pub are_sites_referred-requires : goal.are_sites_referred-requires
are_sites_referred-requires c =
    let s = c in
    let m = c.mark_sites in
    record {
      block_size_in_bounds = (s.requires.0, s.requires.1);
      all_of = (s.requires.2, site_marks s.args.image.now s.args.sites.now s.requires.2 m.new.marks (m.ensures.marked (not-false _ c.if-not-mark_sites.false-raw)));
    }

pub returns : goal.returns
returns c =
    let s = c in
    c.are_sites_referred.ensures ∙ sites-once s.args.image.now s.args.sites.now s.requires.2 (sym c.mark_sites.ensures.value ∙ not-false _ c.if-not-mark_sites.false-raw)
