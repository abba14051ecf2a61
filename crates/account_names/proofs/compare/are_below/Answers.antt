use mathlib.Core.Path.{◌≡◌, refl, sym, ap, ap₂, ◌∙◌}
use mathlib.Core.Bool.{Bool, true, false, ◌&&◌}
use Prim.Native.Nat.{ℕ, ◌≤◌}
use lib.Dec.{ltb}
use borrow.Author.Tests.{ltb-true, ltb-false}
use Rattle.octets.proofs.Laws.Lists.{true_not_false, both_left, both_right}
use Rattle.account_names.proofs.compare.are_below.Goals as goal

not-below : (x y limit : ℕ) → (ltb x limit && ltb y limit) ≡ false → x ≡ y → limit ≤ x
not-below x y limit f e = go (ltb x limit) refl
  where
    go : (b : Bool) → ltb x limit ≡ b → limit ≤ x
    go true q = absurd (true_not_false (sym (ap₂ ◌&&◌ q (ap (λ (n : ℕ). ltb n limit) (sym e) ∙ q)) ∙ f))
    go false q = ltb-false x limit q

pub returns : goal.returns
returns c =
    let a = c.args in (
      λ e. (ltb-true a.x a.limit (both_left (ltb a.x a.limit) (ltb a.y a.limit) e), ltb-true a.y a.limit (both_right (ltb a.x a.limit) (ltb a.y a.limit) e)),
      not-below a.x a.y a.limit,
    )
