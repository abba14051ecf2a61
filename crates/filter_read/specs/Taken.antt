-- Document 01, "The filter" and "Answer numbers": taking a filter apart, with 5 to 8, each judged over the whole filter.
use Rattle.std.specs.Prelude.{◌≡◌, Bool, not, List, ℕ, ltb, length, Ok, Err, Option, None, Some, option_map}
use Rattle.answers.specs.declared.Refusal.TheVariants.{FilterLength, FilterShape, UnknownClause, DuplicateClause}
use Rattle.answers.specs.Try.{Try, refused_if, number_of, value_of}
use Rattle.octets.specs.Lists.{any, first, unique}
use Rattle.octets.specs.Stretch.{stretch_of}
use Rattle.octets.specs.Text.{same_folded}
use Rattle.filter_position.specs.{declared.position.RawClause.RawClause, Filter.filter_limit, Filter.clauses_of}
use Rattle.filter.specs.{declared.request.ClauseName.ClauseName, declared.request.Request.Request}
use Rattle.filter.specs.Request.{Clause, clause_names, spelling, request_by}

-- a clause's name as it stands in the filter
abbrev pub name_octets : List ℕ → RawClause → List ℕ
name_octets s f = stretch_of s f.name

-- a clause is of this name, ASCII case ignored
unfoldable pub is_named : List ℕ → ClauseName → RawClause → Bool
is_named s name f = same_folded (name_octets s f) (spelling name)

-- 7: a clause of another name
unfoldable pub has_unknown : List ℕ → List RawClause → Bool
has_unknown s fs = any (λ f. not (any (λ name. is_named s name f) clause_names)) fs

-- 8: a duplicate clause
unfoldable pub has_duplicate : List ℕ → List RawClause → Bool
has_duplicate s fs = not (unique (λ f g. same_folded (name_octets s f) (name_octets s g)) fs)

abbrev pub as_clause : Option RawClause → Clause
as_clause found = option_map (λ f. f.value) found

-- the request that clauses make
unfoldable pub request_of : List ℕ → List RawClause → Request
request_of s fs = request_by (λ name. as_clause (first (is_named s name) fs))

abbrev pub judged_clauses : List ℕ → Option (List RawClause) → Try Request
judged_clauses s None = Err FilterShape
judged_clauses s (Some fs) = refused_if (has_unknown s fs) UnknownClause (refused_if (has_duplicate s fs) DuplicateClause (Ok (request_of s fs)))

unfoldable pub request_in : List ℕ → Try Request
request_in s = refused_if (ltb filter_limit (length s)) FilterLength (judged_clauses s (clauses_of s))

-- what `take_apart` promises: the answer, with its number and its request, none with a refusal
pub record TakeApartPromise (filter : List ℕ) (r : Try Request) : Type 0 where
  pub same : r ≡ request_in filter
  pub numbered : number_of r ≡ number_of (request_in filter)
  pub given : value_of r ≡ value_of (request_in filter)
