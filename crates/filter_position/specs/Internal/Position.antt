-- What lies at a position, by the definitions of the filter.
use Rattle.std.specs.Prelude.{◌≡◌, true, false, cond, List, [], ◌∷◌, ℕ, ◌+◌, ◌≤◌, ◌<◌, eqb, ltb, get_or, Option, None, Some, option_map}
use Rattle.octets.specs.declared.part.Stretch.{Stretch}
use Rattle.filter_position.specs.declared.position.Element.{Element}
use Rattle.filter_position.specs.declared.position.Filter.{Filter}
use Rattle.filter_position.specs.declared.position.Filter.TheVariants as filter
use Rattle.filter_position.specs.declared.position.FilterRead.{FilterRead}
use Rattle.filter_position.specs.declared.position.Position.{Position}
use Rattle.filter_position.specs.declared.position.RawClause.{RawClause}
use Rattle.filter_position.specs.Filter.{◌>>=◌, element_at, equality, length_width, length_value, and_tag, equality_tag, and_of}

-- a stretch that lies in n octets
abbrev pub Inside : ℕ → Position → Type 0
Inside n p = (p.at ≤ p.end) × (p.end ≤ n)

-- the contents of the element at `at`, by its length
unfoldable pub contents_at : List ℕ → ℕ → ℕ → Option Stretch
contents_at s at end = do
  w ← length_width (get_or s (at + 1) 0)
  cond (ltb end (at + 2 + w)) None (Some (record { start = at + 2 + w; len = length_value s (at + 1) w }))

-- contents start past the tag and a length octet, and before the end of what is around; a length is of two octets at most
abbrev pub ContentsWithin : ℕ → ℕ → Stretch → Type 0
ContentsWithin at end p = (at + 2 ≤ p.start) × (p.start ≤ end) × (p.len < 65536)

-- an element ends within the position that it stands at
abbrev pub ElementWithin : Position → Element → Type 0
ElementWithin p e = (p.at + 2 ≤ e.start) × (e.start ≤ e.next) × (e.next ≤ p.end)

-- a clause whose name and value lie in n octets, the value past the first of them
abbrev pub ClauseInside : ℕ → RawClause → Type 0
ClauseInside n f = (1 ≤ f.value.start) × (f.value.start + f.value.len ≤ n) × (f.name.start + f.name.len ≤ n)

-- the filter at a position, and the position of the next
unfoldable pub filter_in : List ℕ → Element → Option Filter
filter_in s e =
    elim (eqb e.tag equality_tag) [
      | true ↦ option_map filter.Clause (equality s e.start e.next)
      | false ↦ cond (eqb e.tag and_tag) (Some (filter.And (record { at = e.start; end = e.next }))) None
    ]

abbrev pub read_to : Position → Filter → FilterRead
read_to rest f = record { filter = f; rest = rest }

unfoldable pub filter_at : List ℕ → ℕ → ℕ → Option FilterRead
filter_at s at end = do
  e ← element_at s at end
  option_map (read_to (record { at = e.next; end = end })) (filter_in s e)

abbrev pub FilterInside : ℕ → Filter → Type 0
FilterInside n (filter.Clause f) = ClauseInside n f
FilterInside n (filter.And p) = Inside n p

abbrev pub ReadWithin : Position → FilterRead → Type 0
ReadWithin p r = (p.at + 2 ≤ r.rest.at) × (r.rest.at ≤ p.end) × (r.rest.end ≡ p.end) × FilterInside p.end r.filter

-- the clauses of a filter, where d ANDs may stand one inside the other
abbrev pub clauses_in : ℕ → List ℕ → Filter → Option (List RawClause)
clauses_in d s (filter.Clause f) = Some (f ∷ [])
clauses_in d s (filter.And p) = and_of d s p.at p.end
