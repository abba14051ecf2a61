-- Document 01, "Reply octets": names written one after the other, compressed by RFC 1035 section 4.1.4.
use Rattle.std.specs.Prelude.{List, [], ◌∷◌, ◌++◌, ℕ, ◌+◌, length, Option, None, Some}
use Rattle.octets.specs.{Label.labels, Label.joined, Lists.first, Number.big_octets, Text.same}

-- document 01's "name tail starting at a literally written label": the label's offset in the reply, and the octets from there to the end of the name
pub record Tail : Type 0 where
  pub offset : ℕ
  pub text : List ℕ

-- what is written: its octets, and the tails that later names may point to
pub record Writing : Type 0 where
  pub octets : List ℕ
  pub tails : List Tail

-- a pointer's top two bits, and what its offset is below
abbrev pub pointer_bits : ℕ
pointer_bits = 0xC000

abbrev pub pointer_limit : ℕ
pointer_limit = 0x4000

-- the top two bits set, then 14 bits of offset
unfoldable pub pointer_to : ℕ → List ℕ
pointer_to offset = big_octets 2 (pointer_bits + offset)

unfoldable pub literal_label : List ℕ → List ℕ
literal_label l = length l ∷ l

-- a label written out at an offset, and the rest of its name after it
abbrev pub literally : ℕ → List ℕ → List ℕ → Writing → Writing
literally at text l rest = record { octets = literal_label l ++ rest.octets; tails = record { offset = at; text = text } ∷ rest.tails }

-- a pointer ends the name where there is a tail to point to
abbrev pub pointer_or : Option Tail → Writing → Writing
pointer_or (Some t) writing = record { octets = pointer_to t.offset; tails = [] }
pointer_or None writing = writing

-- the rest of a name from a label on, at an offset. Earlier tails stand in the order of writing, so the first that fits is the lowest
unfoldable pub write_labels : List Tail → ℕ → List (List ℕ) → Writing
write_labels earlier at [] = record { octets = 0 ∷ []; tails = [] }
write_labels earlier at (l ∷ ls) =
    let text = joined (l ∷ ls) in
    let rest = write_labels earlier (at + (1 + length l)) ls in
    pointer_or (first (λ t. same t.text text) earlier) (literally at text l rest)

-- a name's text at an offset; an absent or empty text is one zero octet
unfoldable pub write_name : List Tail → ℕ → List ℕ → Writing
write_name earlier at text = write_labels earlier at (labels text)

-- names one after the other
unfoldable pub write_names : List Tail → ℕ → List (List ℕ) → Writing
write_names earlier at [] = record { octets = []; tails = [] }
write_names earlier at (text ∷ texts) =
    let one = write_name earlier at text in
    let rest = write_names (earlier ++ one.tails) (at + length one.octets) texts in
    record { octets = one.octets ++ rest.octets; tails = one.tails ++ rest.tails }
