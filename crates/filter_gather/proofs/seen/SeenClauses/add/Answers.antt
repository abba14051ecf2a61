use mathlib.Core.Path.{ap, ◌∙◌}
use Prim.Native.Nat.{ℕ}
use native.Mathlib.Omega.{arith}
use lib.ListN.{set}
use Rattle.filter_gather.specs.Internal.Gather.{Gathered, added}
use Rattle.filter_gather.specs.Internal.Seen.{decoded}
use Rattle.filter_gather.proofs.Laws.Seen.{add_unknown, add_duplicate, add_first}
use Rattle.filter_gather.proofs.seen.SeenClauses.add.Goals as goal

pub returns-then-place-ge-CLAUSE_COUNT : goal.returns-then-place-ge-CLAUSE_COUNT
returns-then-place-ge-CLAUSE_COUNT c =
    let a = c.args in
    let g = c.self.inside in
    add_unknown a.s.now g.clauses g.unknown g.duplicate a.clause c.place_spelled-place.result c.place_spelled-place.ensures c.if-place-ge-CLAUSE_COUNT.true
    ∙ ap (λ (x : Gathered). added a.s.now x a.clause) c.self.view_is

pub returns-then-self-place-ne0 : goal.returns-then-self-place-ne0
returns-then-self-place-ne0 c =
    let a = c.args in
    let g = c.self.inside in
    add_duplicate a.s.now g.clauses g.unknown g.duplicate a.clause c.place_spelled-place.result c.place_spelled-place.ensures c.if-place-ge-CLAUSE_COUNT.false c.if-self-place-ne0.true
    ∙ ap (λ (x : Gathered). added a.s.now x a.clause) c.self.view_is

pub returns : goal.returns
returns c =
    let a = c.args in
    let g = c.self.inside in
    ap (λ (v : ℕ). decoded (set g.clauses c.place_spelled-place.result v) g.unknown g.duplicate) c.pack.ensures
    ∙ add_first a.s.now g.clauses g.unknown g.duplicate a.clause c.place_spelled-place.result c.place_spelled-place.ensures c.if-place-ge-CLAUSE_COUNT.false c.if-self-place-ne0.false (omega arith) (omega arith) c.self.invariant
    ∙ ap (λ (x : Gathered). added a.s.now x a.clause) c.self.view_is
