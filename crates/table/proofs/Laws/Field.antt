-- Numbers where octets are missing: those count as 0.
use mathlib.Core.Path.{◌≡◌, refl, ap, ◌∙◌}
use mathlib.Core.List.{List, [], ◌∷◌}
use Prim.Native.Nat.{ℕ, ◌+◌, ◌*◌}
use native.Mathlib.Omega.{arith}
use lib.ListN.{take, drop}
use lib.Seq.{drop-drop}
use Rattle.octets.specs.Number.{little, u16_at, u32_at}

pub u32_anywhere : (s : List ℕ) (offset : ℕ) → u32_at s offset ≡ u16_at s offset + 65536 * u16_at s (offset + 2)
unfolding little
u32_anywhere s offset = halves (drop offset s) ∙ ap (λ (l : List ℕ). u16_at s offset + 65536 * little (take 2 l)) (drop-drop 2 offset s)
  where
    halves : (l : List ℕ) → little (take 4 l) ≡ little (take 2 l) + 65536 * little (take 2 (drop 2 l))
    halves [] = refl
    halves (x ∷ []) = omega arith
    halves (x ∷ y ∷ []) = omega arith
    halves (x ∷ y ∷ z ∷ []) = omega arith
    halves (x ∷ y ∷ z ∷ w ∷ l) = omega arith
