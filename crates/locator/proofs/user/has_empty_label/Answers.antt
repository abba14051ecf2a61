use mathlib.Core.Path.{◌≡◌, refl, sym, ap, ◌∙◌}
use mathlib.Core.Bool.{Bool, false, not}
use mathlib.Core.List.{List, [], ◌∷◌}
use Prim.Native.Nat.{ℕ, ◌≤◌}
use native.Mathlib.Omega.{arith}
use lib.Dec.{eqb}
use lib.ListN.{length}
use Rattle.octets.specs.Label.{labels, parts}
use Rattle.octets.specs.Lists.{all, any}
use Rattle.octets.specs.NameRule.{sized}
use Rattle.octets.proofs.Laws.NameRule.{empty_label}
use Rattle.locator.proofs.user.has_empty_label.Goals as goal

-- an empty name has no labels
none-empty : (s : List ℕ) → length s ≡ 0 → false ≡ any (λ l. eqb (length l) 0) (labels s)
unfolding any labels
none-empty [] h = refl
none-empty (x ∷ xs) h = absurd (omega arith)

some-empty : (s : List ℕ) (good : Bool) → (length s ≡ 0 → ⊥) → length s ≤ 63 → good ≡ all (sized 1 63) (parts s) → not good ≡ any (λ l. eqb (length l) 0) (labels s)
unfolding labels
some-empty [] good n h e = absurd (n refl)
some-empty (x ∷ xs) good n h e = ap not e ∙ sym (empty_label (x ∷ xs) h)

pub returns-then-name-eq0 : goal.returns-then-name-eq0
returns-then-name-eq0 c = none-empty c.args.name.now c.if-name-eq0.true

pub returns : goal.returns
returns c =
    let p = c.args in
    some-empty p.name.now c.has_good_labels.result (λ e. c.if-name-eq0.false e) c.requires c.has_good_labels.ensures
