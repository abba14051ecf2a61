-- Numbers in octets, at any width: document 01, "The table image" and "Reply octets" little-endian, "The filter" big-endian, as pointers are.
use Rattle.std.specs.Prelude.{Bool, not, List, [], ◌∷◌, reverse, ℕ, zero, suc, ◌+◌, ◌*◌, ◌/◌, ◌%◌, eqb}
use Rattle.std.specs.Int.Bits.{bit_and}
use Rattle.octets.specs.Lists.{cut}

-- the number that octets make, the least significant first
unfoldable pub little : List ℕ → ℕ
little [] = 0
little (x ∷ xs) = x + 256 * little xs

-- the number that octets make, the most significant first
unfoldable pub big : List ℕ → ℕ
big xs = little (reverse xs)

-- a number in w octets
unfoldable pub little_octets : ℕ → ℕ → List ℕ
little_octets zero n = []
little_octets (suc w) n = (n % 256) ∷ little_octets w (n / 256)

unfoldable pub big_octets : ℕ → ℕ → List ℕ
big_octets w n = reverse (little_octets w n)

-- the numbers at an offset
abbrev pub u16_at : List ℕ → ℕ → ℕ
u16_at s at = little (cut s at 2)

abbrev pub u32_at : List ℕ → ℕ → ℕ
u32_at s at = little (cut s at 4)

-- some bit of the mask is set
unfoldable pub has : ℕ → ℕ → Bool
has bits mask = not (eqb (bit_and bits mask) 0)
