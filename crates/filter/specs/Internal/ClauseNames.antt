-- Clause names as what a clause is stored under.
use Rattle.std.specs.Prelude.{Bool, cond}
use Rattle.octets.specs.Text.{same_folded}
use Rattle.filter.specs.declared.request.ClauseName.{ClauseName}
use Rattle.filter.specs.declared.request.Request.{Request}
use Rattle.filter.specs.Request.{Clause, spelling, clause, request_by}

-- names are told apart by their spelling
abbrev pub is_same_name : ClauseName → ClauseName → Bool
is_same_name m n = same_folded (spelling m) (spelling n)

-- a request with its clause of one name set
abbrev pub stored : Request → ClauseName → Clause → Request
stored r name c = request_by (λ other. cond (is_same_name name other) c (clause r other))
