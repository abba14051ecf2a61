-- A request as the members of C's struct: for each clause, in document 01's order, whether it is present, its start and its length.
use Rattle.std.specs.Prelude.{◌≡◌, Bool, true, false, List, [], ◌∷◌, ◌++◌, ℕ, ◌+◌, eqb, get_or, replicate, Ok, Err, None, Some}
use Rattle.answers.specs.Try.{Try}
use Rattle.filter.specs.{declared.request.Request.Request, Request.Clause}

abbrev pub clause_unless : Bool → ℕ → ℕ → Clause
clause_unless true start len = None
clause_unless false start len = Some (record { start = start; len = len })

-- the clause whose members start at a place: 0 is absent, any other number present
abbrev pub clause_at : List ℕ → ℕ → Clause
clause_at members at = clause_unless (eqb (get_or members at 0) 0) (get_or members (at + 1) 0) (get_or members (at + 2) 0)

-- the request that a caller's members make
abbrev pub request_given : List ℕ → Request
request_given members =
    record {
      dns_domain = clause_at members 0;
      «host» = clause_at members 3;
      dns_host_name = clause_at members 6;
      «user» = clause_at members 9;
      «aac» = clause_at members 12;
      domain_sid = clause_at members 15;
      domain_guid = clause_at members 18;
      nt_ver = clause_at members 21;
    }

abbrev pub presence : Clause → ℕ
presence None = 0
presence (Some t) = 1

abbrev pub start_of : Clause → ℕ
start_of None = 0
start_of (Some t) = t.start

abbrev pub length_of : Clause → ℕ
length_of None = 0
length_of (Some t) = t.len

abbrev pub clause_members : Clause → List ℕ
clause_members c = presence c ∷ start_of c ∷ length_of c ∷ []

abbrev pub request_members : Request → List ℕ
request_members r =
    clause_members r.dns_domain
    ++ clause_members r.«host»
    ++ clause_members r.dns_host_name
    ++ clause_members r.«user»
    ++ clause_members r.«aac»
    ++ clause_members r.domain_sid
    ++ clause_members r.domain_guid
    ++ clause_members r.nt_ver

-- what taking a filter apart gives: with a refusal no clause is present
abbrev pub taken_members : Try Request → List ℕ
taken_members (Ok r) = request_members r
taken_members (Err r) = replicate 24 0

-- a request that was given can be handed on: its members make it again
abbrev pub RequestHandedOn : Type 0
RequestHandedOn = (r : Request) → request_given (request_members r) ≡ r
