-- Document 01, "The table image": UTF-8 by RFC 3629, section 4; a text's code points, read octet by octet. Document 02, #105: the octets of a code point.
use Rattle.std.specs.Prelude.{Bool, cond, List, [], ◌∷◌, ℕ, zero, suc, ◌+◌, ◌*◌, ◌/◌, ◌%◌, eqb, ltb, Option, None, Some, option_map, is_some}
use Rattle.octets.specs.{Text.within}

-- a character read in part: octets (in UTF-16LE units) still to come, the range of the next one, and the code point's bits so far
pub record Partial : Type 0 where
  pub left : ℕ
  pub low : ℕ
  pub high : ℕ
  pub bits : ℕ

-- what an octet leads to: nothing right, a whole code point, or a character read in part
pub data Decoded : Type 0 where
  bad : Decoded
  point : ℕ → Decoded
  more : Partial → Decoded

abbrev pub opens : ℕ → ℕ → ℕ → ℕ → Decoded
opens left low high bits = more (record { left = left; low = low; high = high; bits = bits })

-- a character's first octet, by the rows of RFC 3629's grammar; the second octet's range keeps out overlong forms, surrogates and what is past 10FFFFh
unfoldable pub lead : ℕ → Decoded
lead x =
    cond (ltb x 0x80) (point x)
    (cond (ltb x 0xC2) bad
    (cond (ltb x 0xE0) (opens 1 0x80 0xBF (x % 32))
    (cond (eqb x 0xE0) (opens 2 0xA0 0xBF (x % 16))
    (cond (eqb x 0xED) (opens 2 0x80 0x9F (x % 16))
    (cond (ltb x 0xF0) (opens 2 0x80 0xBF (x % 16))
    (cond (eqb x 0xF0) (opens 3 0x90 0xBF (x % 8))
    (cond (ltb x 0xF4) (opens 3 0x80 0xBF (x % 8))
    (cond (eqb x 0xF4) (opens 3 0x80 0x8F (x % 8)) bad))))))))

abbrev pub closes : ℕ → ℕ → Decoded
closes zero bits = bad
closes (suc zero) bits = point bits
closes (suc (suc k)) bits = opens (suc k) 0x80 0xBF bits

-- a later octet of a character: six more bits
unfoldable pub follow : Partial → ℕ → Decoded
follow i x = cond (within i.low i.high x) (closes i.left (i.bits * 64 + x % 64)) bad

-- between characters, or within one
pub data Decoder : Type 0 where
  between : Decoder
  partway : Partial → Decoder

abbrev pub decode : Decoder → ℕ → Decoded
decode between x = lead x
decode (partway i) x = follow i x

abbrev pub on_decoded : Decoded → (Decoder → Option (List ℕ)) → Option (List ℕ)
on_decoded bad rest = None
on_decoded (point c) rest = option_map (λ cs. c ∷ cs) (rest between)
on_decoded (more i) rest = rest (partway i)

abbrev pub at_end : Decoder → Option (List ℕ)
at_end between = Some []
at_end (partway i) = None

-- the code points from a decoder on; none where the octets are not UTF-8, a text cut within a character too
unfoldable pub points_from : Decoder → List ℕ → Option (List ℕ)
points_from decoder [] = at_end decoder
points_from decoder (x ∷ xs) = on_decoded (decode decoder x) (λ next. points_from next xs)

abbrev pub points : List ℕ → Option (List ℕ)
points = points_from between

unfoldable pub is_utf8 : List ℕ → Bool
is_utf8 s = is_some (points s)

-- a code point's octets by RFC 3629, section 3
unfoldable pub utf8_of : ℕ → List ℕ
utf8_of c =
    cond (ltb c 0x80) (c ∷ [])
    (cond (ltb c 0x800) ((0xC0 + c / 64) ∷ (0x80 + c % 64) ∷ [])
    (cond (ltb c 0x10000) ((0xE0 + c / 4096) ∷ (0x80 + c / 64 % 64) ∷ (0x80 + c % 64) ∷ [])
    ((0xF0 + c / 262144) ∷ (0x80 + c / 4096 % 64) ∷ (0x80 + c / 64 % 64) ∷ (0x80 + c % 64) ∷ [])))
