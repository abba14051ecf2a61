use mathlib.Core.Path.{ap, ap₂, ◌∙◌}
use mathlib.Core.Bool.{Bool, ◌&&◌}
use Rattle.table.specs.Server.{Server}
use Rattle.table_whole.specs.Internal.Half.{good_references}
use Rattle.table_refer.specs.Internal.Mark.{is_marked}
use Rattle.table_whole.proofs.Laws.Half.{sites_refer, subnets_refer_lem}
use Rattle.table_whole.proofs.whole.are_sites_referred.Goals as goal

pub returns : goal.returns
unfolding good_references
returns c =
    let s = c in
    let marks = s.args.marks.now in
    let own = c.own_site.ensures ∙ ap (λ (v : Server). v.site) c.server_of.ensures in
    ap₂ (λ (p q : Bool). p && q)
    (ap₂ (λ (p q : Bool). p && q) (c.is_marked.ensures ∙ ap (is_marked marks) own ∙ s.requires.all_of.1 _) (c.all_sites_refer.ensures ∙ sites_refer s.args.image.now s.args.sites.now s.requires.all_of.0 marks s.requires.all_of.1))
    (c.all_subnets_refer.ensures ∙ subnets_refer_lem marks s.args.image.now s.requires.all_of.1)
