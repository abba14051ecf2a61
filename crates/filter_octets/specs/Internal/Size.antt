-- How long the parts of a written filter are, and its contents by their names.
use Rattle.std.specs.Prelude.{cond, ℕ, ◌+◌, ltb}
use mathlib.Core.List.{List, flat_map}
use Rattle.filter_position.specs.Filter.{short_limit}
use Rattle.filter.specs.declared.request.ClauseName.{ClauseName}
use Rattle.filter.specs.declared.request.Request.{Request}
use Rattle.filter.specs.Request.{clause, octets_of}
use Rattle.filter_octets.specs.Octets.{equality_for}

-- a tag and the shortest length of n octets
abbrev pub head_size : ℕ → ℕ
head_size n = cond (ltb n short_limit) 2 (cond (ltb n 0x100) 3 4)

-- an element of n octets
abbrev pub element_size : ℕ → ℕ
element_size n = head_size n + n

-- the equalities of the clauses that are present, by their names
abbrev pub contents : List ℕ → Request → List ClauseName → List ℕ
contents source r ns = flat_map (λ name. equality_for name (octets_of source (clause r name))) ns
