use mathlib.Core.Path.{ap, ap₂, ◌∙◌}
use mathlib.Core.Bool.{Bool, ◌&&◌}
use Rattle.table.specs.Server.{Server}
use Rattle.table.specs.Table.{table_from}
use Rattle.table_whole.specs.Internal.Half.{good_contexts}
use Rattle.table_refer.specs.Internal.Refer.{has_number}
use Rattle.table_whole.proofs.Laws.Half.{contexts_alike_lem, context-found}
use Rattle.table_whole.proofs.whole.are_contexts_good.Goals as goal

pub returns : goal.returns
unfolding good_contexts
returns c =
    let s = c in
    let image = s.args.image.now in
    let contexts = s.args.contexts.now in
    let default = c.default_context.ensures ∙ ap (λ (v : Server). v.default_context_lem) c.server_of.ensures in
    ap₂ (λ (p q : Bool). p && q)
    (ap₂ (λ (p q : Bool). p && q) (c.all_unique.ensures ∙ contexts_alike_lem image contexts s.requires.2) (c.has_context.ensures ∙ ap (has_number image contexts) default ∙ context-found image contexts s.requires.2 (table_from image).server.default_context_lem))
    c.good_accounts_of.ensures
