-- Octets as letters, ASCII case ignored.
use Rattle.std.specs.Prelude.{Bool, true, ◌&&◌, List, [], ◌∷◌, map, ℕ, ◌+◌, eqb, get_or}
use Rattle.octets.specs.Text.{lower}
use Rattle.filter.specs.declared.request.ClauseName.{ClauseName}
use Rattle.filter.specs.Request.{spelling}

-- the octets from `at` on are these small letters
unfoldable pub letters_at : List ℕ → ℕ → List ℕ → Bool
letters_at s at [] = true
letters_at s at (x ∷ xs) = eqb (lower (get_or s at 0)) x && letters_at s (at + 1) xs

abbrev pub small_letters : ClauseName → List ℕ
small_letters name = map lower (spelling name)
