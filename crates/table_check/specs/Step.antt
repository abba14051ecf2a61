-- Document 02, #103: the block check in steps of several octets, and what such a step leaves.
use Rattle.std.specs.Prelude.{◌≡◌, List, [], ◌∷◌, ℕ, ◌+◌, ◌*◌, ◌%◌, ◌<◌, length}
use Rattle.table_check.specs.{declared.check.Check.Check, Check.grown}

unfoldable pub sum : List ℕ → ℕ
sum [] = 0
sum (x ∷ xs) = x + sum xs

-- each octet as often as it is counted: of n octets the first n times, the last once
unfoldable pub counted : List ℕ → ℕ
counted [] = 0
counted (x ∷ xs) = length (x ∷ xs) * x + counted xs

-- a step over n octets: a grows by their sum, b by n times the old a and by each octet as often as it is counted, with one remainder for each
unfoldable pub step : Check → List ℕ → Check
step c octets = record { a = (c.a + sum octets) % 65536; b = (c.b + length octets * c.a + counted octets) % 65536 }

-- from any a and b below 65,536 a step leaves what its octets taken singly leave: sixteen of them, twelve, or any number
abbrev pub StepAsSingly : Type 0
StepAsSingly = (c : Check) (octets : List ℕ) → c.a < 65536 → c.b < 65536 → step c octets ≡ grown c octets
