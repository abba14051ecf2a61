use mathlib.Core.Path.{sym, ap, ◌∙◌}
use Prim.Native.Nat.{ℕ}
use lib.ListN.{get_or}
use Rattle.filter.specs.Request.{clause}
use Rattle.filter_gather.specs.Internal.Gather.{Gathered}
use Rattle.filter_gather.specs.Internal.Seen.{clause_seen}
use Rattle.filter_gather.proofs.Laws.Seen.{clause-at}
use Rattle.filter_gather.proofs.seen.SeenClauses.clause.Goals as goal

pub returns : goal.returns
returns c =
    let g = c.self.inside in
    let n = c.args.name in
    c.clause_seen.ensures
    ∙ ap (λ (k : ℕ). clause_seen (get_or g.clauses k 0)) c.place_of.ensures
    ∙ sym (clause-at g.unknown g.duplicate g.clauses n)
    ∙ ap (λ (x : Gathered). clause x.request n) c.self.view_is
