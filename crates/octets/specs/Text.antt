-- Document 01, "The filter" and "The table image": texts are the same, or the same with ASCII case ignored; and tests of their octets.
use Rattle.std.specs.Prelude.{Bool, true, false, cond, ◌&&◌, List, [], ◌∷◌, map, ℕ, ◌+◌, eqb, leb}
use Rattle.octets.specs.Lists.{all}

unfoldable pub same : List ℕ → List ℕ → Bool
same [] [] = true
same [] (y ∷ ys) = false
same (x ∷ xs) [] = false
same (x ∷ xs) (y ∷ ys) = eqb x y && same xs ys

-- A to Z as a to z
unfoldable pub lower : ℕ → ℕ
lower x = cond (leb 65 x && leb x 90) (x + 32) x

abbrev pub same_folded : List ℕ → List ℕ → Bool
same_folded xs ys = same (map lower xs) (map lower ys)

-- a number from low to high, both included
abbrev pub within : ℕ → ℕ → ℕ → Bool
within low high n = leb low n && leb n high

abbrev pub is_printable : ℕ → Bool
is_printable = within 0x21 0x7E

abbrev pub all_zero : List ℕ → Bool
all_zero = all (λ x. eqb x 0)
