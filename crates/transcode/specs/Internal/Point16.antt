-- The code point at an offset of a UTF-16LE text, and the offset after it.
use Rattle.std.specs.Prelude.{◌≡◌, List, ◌∷◌, ℕ, ◌+◌, ◌≤◌, ◌<◌, length, drop, None, option_map}
use Rattle.unicode_text.specs.declared.utf8.PointAt.{PointAt}
use Rattle.unicode_text.specs.declared.utf8.PointAt.TheVariants.{End, Bad, Point}
use Rattle.unicode_text.specs.Internal.Point.{point_limit}
use Rattle.unicode_text.specs.Utf16.{point_octets, points_of16}

-- what it says of the text's code points from the offset on
abbrev pub PointRead16 : List ℕ → ℕ → PointAt → Type 0
PointRead16 s at End = length s ≤ at
PointRead16 s at Bad = points_of16 (drop at s) ≡ None
PointRead16 s at (Point c next) =
    (at < next) × (next ≤ length s) × (c < point_limit) × (points_of16 (drop at s) ≡ option_map (λ cs. c ∷ cs) (points_of16 (drop next s))) × (next ≡ at + length (point_octets c))
