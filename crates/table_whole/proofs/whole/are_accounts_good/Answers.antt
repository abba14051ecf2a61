use mathlib.Core.Path.{ap₂, ◌∙◌}
use mathlib.Core.Bool.{Bool, ◌&&◌}
use Rattle.table_whole.proofs.Laws.Half.{accounts-good}
use Rattle.table_whole.proofs.whole.are_accounts_good.Goals as goal

pub returns : goal.returns
returns c =
    let s = c in
    ap₂ (λ (p q : Bool). p && q) c.are_in_contexts.ensures c.are_accounts_unique.ensures
    ∙ accounts-good s.args.image.now s.args.contexts.now s.requires.1 s.args.accounts.now s.requires.0
