-- What is gathered from a filter's clauses, one after the other: the first of each name, and whether 7 or 8 is to be given.
use Rattle.std.specs.Prelude.{Bool, true, false, List, [], ◌∷◌, ℕ, Option, None, Some, is_some}
use Rattle.octets.specs.Lists.{first}
use Rattle.octets.specs.Stretch.{stretch_of}
use Rattle.octets.specs.Text.{same_folded}
use Rattle.filter_position.specs.declared.position.RawClause.{RawClause}
use Rattle.filter.specs.declared.request.ClauseName.{ClauseName}
use Rattle.filter.specs.declared.request.Request.{Request}
use Rattle.filter.specs.Internal.ClauseNames.{stored}
use Rattle.filter.specs.Request.{clause_names, spelling, clause, request_by}

-- the clauses read so far: the first of each name, whether one was of another name, and whether one was there before
pub record Gathered : Type 0 where
  pub request : Request
  pub unknown : Bool
  pub duplicate : Bool

-- what the clauses of a filter make, where it is of the shape
pub data Gathering : Type 0 where
  Wrong : Gathering
  Good : Gathered → Gathering

abbrev pub gathering_of : Bool → Gathered → Gathering
gathering_of true g = Good g
gathering_of false g = Wrong

-- the clause name that octets spell
unfoldable pub name_spelled : List ℕ → Option ClauseName
name_spelled x = first (λ name. same_folded x (spelling name)) clause_names

-- one more clause: of another name, of a name that is there already, or the first of its name

abbrev pub added_to : Gathered → ClauseName → RawClause → Bool → Gathered
added_to g name f true = record { request = g.request; unknown = g.unknown; duplicate = true }
added_to g name f false = record { request = stored g.request name (Some f.value); unknown = g.unknown; duplicate = g.duplicate }

abbrev pub added_as : Gathered → RawClause → Option ClauseName → Gathered
added_as g f None = record { request = g.request; unknown = true; duplicate = g.duplicate }
added_as g f (Some name) = added_to g name f (is_some (clause g.request name))

unfoldable pub added : List ℕ → Gathered → RawClause → Gathered
added s g f = added_as g f (name_spelled (stretch_of s f.name))

unfoldable pub all_added : List ℕ → Gathered → List RawClause → Gathered
all_added s g [] = g
all_added s g (f ∷ fs) = all_added s (added s g f) fs

abbrev pub gathered_from : List ℕ → Gathered → Option (List RawClause) → Gathering
gathered_from s g None = Wrong
gathered_from s g (Some fs) = Good (all_added s g fs)

abbrev pub nothing : Gathered
nothing = record { request = request_by (λ name. None); unknown = false; duplicate = false }
