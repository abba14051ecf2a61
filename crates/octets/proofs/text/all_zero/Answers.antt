use mathlib.Core.Path.{sym, ◌∙◌}
use mathlib.Core.Bool.{◌&&◌}
use borrow.Author.Rules.{rules}
use borrow.Author.Tests.{tests}
use lib.Dec.{eqb}
use lib.ListN.{replicate}
use lib.Pointwise.{pointwise}
use Rattle.std.proofs.lemmas.Iterator.{YieldsList-from_slice}
use Rattle.std.proofs.lemmas.Iterator.Search.{all_from_yields_List}
use Rattle.octets.proofs.Laws.Lists.{list_all_is}
use Rattle.octets.proofs.Laws.Text.{eights_zero}
use mathlib.Core.Path.{◌≡◌, ap}
use mathlib.Core.Bool.{Bool}
use mathlib.Core.List.{List}
use Prim.Native.Nat.{ℕ, ◌/◌, ◌*◌}
use native.Mathlib.Omega.{arith}
use lib.ListN.{length, drop}
use Rattle.std.specs.List.{list_all}
use Rattle.std.specs.Simd.{first_chunks}
use Rattle.octets.specs.Text.{all_zero}
use Rattle.octets.proofs.text.all_zero.Goals as goal
use Rattle.octets.proofs.text.all_zero.Goals.{After-all}

-- eight zeros
abbrev are_zero : List ℕ → Bool
are_zero e = pointwise eqb e (replicate 8 0)

front : (c : After-all) → c.all.result ≡ list_all are_zero (first_chunks 8 (length c.args.s.now / 8) c.args.s.now)
front c = all_from_yields_List are_zero _ _ _ c.all.ensures.ran (YieldsList-from_slice _ (c.iter.ensures.rest ∙ c.as_chunks.ensures.front)) (λ x b q k. search (rules, tests))

pub returns-then-all : goal.returns-then-all
returns-then-all c =
    let s = c.args.s.now in
    let rest = all_from_yields_List (λ x. eqb x 0) _ _ _ c.all-then-all.ensures.ran (YieldsList-from_slice _ (c.iter-then-all.ensures.rest ∙ c.as_chunks.ensures.back)) (λ x b q k. search (rules, tests)) in
    let eights = sym (front (goal.at.returns-then-all c).After-all) ∙ c.if-all.true in
    rest ∙ list_all_is (λ x. eqb x 0) _ ∙ ap (λ (b : Bool). b && all_zero (drop (length s / 8 * 8) s)) (sym eights) ∙ eights_zero (length s / 8) s (omega arith)

pub returns-else-all : goal.returns-else-all
returns-else-all c =
    let s = c.args.s.now in
    let eights = front (goal.at.returns-else-all c).After-all in
    c.if-all.false ∙ ap (λ (b : Bool). b && all_zero (drop (length s / 8 * 8) s)) (sym c.if-all.false ∙ eights) ∙ eights_zero (length s / 8) s (omega arith)
