-- Document 01, "The filter": the octets of a filter that is written.
use Rattle.std.specs.Prelude.{cond, ℕ, ltb, length, Option, None, Some}
use mathlib.Core.List.{List, [], ◌∷◌, ◌++◌, flat_map}
use Rattle.octets.specs.Number.{big_octets}
use Rattle.filter.specs.{declared.request.ClauseName.ClauseName, declared.request.Request.Request}
use Rattle.filter_position.specs.Filter.{short_limit, one_after, two_after, and_tag, equality_tag, string_tag}
use Rattle.filter.specs.Request.{clause_names, spelling, clause, octets_of}

-- the shortest length
unfoldable pub length_octets : ℕ → List ℕ
length_octets n = cond (ltb n short_limit) (big_octets 1 n) (cond (ltb n 0x100) (one_after ∷ big_octets 1 n) (two_after ∷ big_octets 2 n))

unfoldable pub element : ℕ → List ℕ → List ℕ
element tag contents = (tag ∷ length_octets (length contents)) ++ contents

-- the equality of a clause that is present
abbrev pub equality_for : ClauseName → Option (List ℕ) → List ℕ
equality_for name None = []
equality_for name (Some value) = element equality_tag (element string_tag (spelling name) ++ element string_tag value)

-- the present clauses, whose octets lie in the source, in document 01's order inside one AND
unfoldable pub filter_octets : List ℕ → Request → List ℕ
filter_octets source r = element and_tag (flat_map (λ name. equality_for name (octets_of source (clause r name))) clause_names)
