use mathlib.Core.Path.{◌≡◌, ap, ◌∙◌}
use mathlib.Core.List.{List}
use Prim.Native.Nat.{ℕ}
use native.Mathlib.Omega.{arith}
use borrow.Author.Tests.{eqb-true}
use lib.ListN.{length, take}
use lib.Seq.{take_all}
use Rattle.octets.specs.Number.{little}
use Rattle.octets.specs.Stretch.{stretch_of}
use Rattle.filter_read.proofs.wrong_value.clause_number.Goals as goal
use Rattle.filter_read.proofs.wrong_value.clause_number.Goals.{After-of}

four : (c : After-of) → length c.of.result.now ≡ 4
four c = let p = c.args in ap length c.of.ensures ∙ eqb-true (length (stretch_of p.s.now p.stretch)) 4 c.requires

pub u32_at-requires : goal.u32_at-requires
u32_at-requires c = omega (arith, four (goal.at.u32_at-requires c).After-of)

pub returns : goal.returns
returns c =
    let x : List ℕ = c.of.result.now in
    let w : take 4 x ≡ x = take_all 4 x (omega (arith, four (goal.at.returns c).After-of)) in
    c.u32_at.ensures ∙ ap little (w ∙ c.of.ensures)
