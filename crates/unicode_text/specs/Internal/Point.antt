-- The code point at an offset of a text, and the offset after it; the code points that can be read of octets that are no UTF-8; and what a
-- code point decoded from octets as numbers says of a text in which they stand.
use Rattle.std.specs.Prelude.{◌≡◌, true, false, cond, List, [], ◌∷◌, ℕ, ◌+◌, ◌%◌, ◌≤◌, ◌<◌, ltb, length, get_or, drop, None, option_map}
use Rattle.octets.specs.Text.{within}
use Rattle.unicode_text.specs.Utf8.{Decoded, bad, point, more, Decoder, between, partway, decode, points}
use Rattle.unicode_text.specs.declared.utf8.PointAt.{PointAt}
use Rattle.unicode_text.specs.declared.utf8.PointAt.TheVariants.{End, Bad, Point}

-- every code point is below
abbrev pub point_limit : ℕ
point_limit = 0x110000

abbrev pub read_on : Decoded → (Decoder → List ℕ) → List ℕ
read_on bad rest = []
read_on (point c) rest = c ∷ rest between
read_on (more i) rest = rest (partway i)

-- the code points from a decoder on, up to the text's end or to what is no UTF-8
unfoldable pub readable_from : Decoder → List ℕ → List ℕ
readable_from decoder [] = []
readable_from decoder (x ∷ xs) = read_on (decode decoder x) (λ next. readable_from next xs)

abbrev pub readable : List ℕ → List ℕ
readable = readable_from between

-- what it says of the text's code points from the offset on
abbrev pub PointRead : List ℕ → ℕ → PointAt → Type 0
PointRead s at End = length s ≤ at
PointRead s at Bad = (points (drop at s) ≡ None) × (readable (drop at s) ≡ [])
PointRead s at (Point c next) =
    (at < next) × (next ≤ length s) × (c < point_limit) × (points (drop at s) ≡ option_map (λ cs. c ∷ cs) (points (drop next s))) × (readable (drop at s) ≡ c ∷ readable (drop next s))

-- what the six bits read of an octet, or 64, say of it
abbrev pub SixBits : ℕ → ℕ → ℕ → ℕ → Type 0
SixBits x low high r = (r ≤ 63 → (within low high x ≡ true) × (r ≡ x % 64)) × (63 < r → within low high x ≡ false)

-- a character's octets stand at an offset, two at least and as many more as its lead tells; past the end they are 0
abbrev pub StandAt : List ℕ → ℕ → ℕ → ℕ → ℕ → ℕ → Type 0
StandAt s at lead second third fourth =
    (at < length s) × (lead ≡ get_or s at 0) × (second ≡ get_or s (at + 1) 0) × (0xE0 ≤ lead → third ≡ get_or s (at + 2) 0) × (0xF0 ≤ lead → fourth ≡ get_or s (at + 3) 0)

-- what a code point decoded, or the limit of them, says of the text from the offset on
abbrev pub CodeRead : List ℕ → ℕ → ℕ → ℕ → Type 0
CodeRead s at size code = (code < point_limit → PointRead s at (Point code (at + size))) × (point_limit ≤ code → PointRead s at Bad)

-- it says so of any text in which these octets stand
abbrev pub CodeOf : ℕ → ℕ → ℕ → ℕ → ℕ → ℕ → Type 0
CodeOf size lead second third fourth code = (s : List ℕ) (at : ℕ) → StandAt s at lead second third fourth → CodeRead s at size code

-- how many octets a character has by its lead; of an octet that leads none it says nothing
abbrev pub size_of : ℕ → ℕ
size_of lead = cond (ltb lead 0x80) 1 (cond (ltb lead 0xE0) 2 (cond (ltb lead 0xF0) 3 4))
