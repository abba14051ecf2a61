-- A clause's members, stored one after the other.
use Rattle.std.specs.Prelude.{List, ℕ, ◌+◌, set}
use Rattle.filter.specs.Request.{Clause}
use Rattle.c_request.specs.Request.{presence, start_of, length_of}

abbrev pub clause_put : List ℕ → ℕ → Clause → List ℕ
clause_put d at c = set (set (set d at (presence c)) (at + 1) (start_of c)) (at + 2) (length_of c)
