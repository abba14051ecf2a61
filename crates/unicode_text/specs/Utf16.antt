-- Document 01, "Reply octets": texts as UTF-16LE, the octets of code points and of a UTF-8 text. Document 02, #105: such a text as UTF-8.
use Rattle.std.specs.Prelude.{◌≡◌, Bool, true, cond, ℕ, ◌+◌, ◌*◌, ◌-◌, ◌/◌, ◌%◌, ltb, Option, None, option_map, unwrap_or}
use mathlib.Core.List.{List, [], ◌∷◌, ◌++◌, flat_map}
use Rattle.octets.specs.{Number.little, Number.little_octets, Text.within}
use Rattle.unicode_text.specs.Utf8.{Partial, Decoded, bad, point, opens, Decoder, between, partway, on_decoded, at_end, points, is_utf8, utf8_of}

abbrev pub is_high : ℕ → Bool
is_high = within 0xD800 0xDBFF

abbrev pub is_low : ℕ → Bool
is_low = within 0xDC00 0xDFFF

-- ten bits each of what is past 10000h
abbrev pub high_unit : ℕ → ℕ
high_unit c = 0xD800 + (c - 0x10000) / 1024

abbrev pub low_unit : ℕ → ℕ
low_unit c = 0xDC00 + (c - 0x10000) % 1024

-- one unit below 10000h, else a high and a low surrogate
unfoldable pub point_octets : ℕ → List ℕ
point_octets c =
    cond (ltb c 0x10000)
    (little_octets 2 c)
    (little_octets 2 (high_unit c) ++ little_octets 2 (low_unit c))

abbrev pub points_octets : List ℕ → List ℕ
points_octets = flat_map point_octets

-- a text that is UTF-8, in UTF-16LE
unfoldable pub utf16 : List ℕ → List ℕ
utf16 s = unwrap_or (option_map points_octets (points s)) []

-- ---- the way back: a text's code points, read unit by unit, as those of a UTF-8 text are read octet by octet

-- a unit that is no surrogate is its code point; a high surrogate has the upper ten bits of what is past 10000h, and a low one must follow
unfoldable pub lead16 : ℕ → Decoded
lead16 u = cond (is_high u) (opens 1 0xDC00 0xDFFF (0x40 + u % 1024)) (cond (is_low u) bad (point u))

-- the low surrogate: ten more bits
unfoldable pub follow16 : Partial → ℕ → Decoded
follow16 i u = cond (within i.low i.high u) (point (i.bits * 1024 + u % 1024)) bad

abbrev pub decode16 : Decoder → ℕ → Decoded
decode16 between u = lead16 u
decode16 (partway i) u = follow16 i u

-- the code points from a decoder on; none at half a unit or at a lone surrogate
unfoldable pub points_from16 : Decoder → List ℕ → Option (List ℕ)
points_from16 decoder [] = at_end decoder
points_from16 decoder (a ∷ []) = None
points_from16 decoder (a ∷ b ∷ rest) = on_decoded (decode16 decoder (little (a ∷ b ∷ []))) (λ next. points_from16 next rest)

abbrev pub points_of16 : List ℕ → Option (List ℕ)
points_of16 = points_from16 between

-- a UTF-16LE text in UTF-8; none where it is no text
unfoldable pub utf8_from16 : List ℕ → Option (List ℕ)
utf8_from16 s = option_map (flat_map utf8_of) (points_of16 s)

-- ---- what holds of both

-- it loses nothing: two texts that are UTF-8 with the same octets in UTF-16LE are one text
abbrev pub OneText : Type 0
OneText = (x y : List ℕ) → is_utf8 x ≡ true → is_utf8 y ≡ true → utf16 x ≡ utf16 y → x ≡ y
