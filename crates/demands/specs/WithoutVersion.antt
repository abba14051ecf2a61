-- Document 02, #101: a filter without NtVer gets what its clauses get with version 1, and where that is an answer its form is NT40, whatever the roles.
use Rattle.std.specs.Prelude.{◌≡◌, List, [], ◌∷◌, ℕ, Ok, None, Some}
use Rattle.answers.specs.declared.Form.TheVariants.{Nt40}
use Rattle.answers.specs.Try.{◌>>=◌}
use Rattle.filter.specs.{declared.request.ClauseName.ClauseName, declared.request.Request.Request, Request.clause, Request.octets_of}
use Rattle.filter.specs.declared.request.ClauseName.TheVariants.{NtVer}
use Rattle.filter_read.specs.{Taken.request_in, Value.ping_in, Value.ping_from}
use Rattle.locator.specs.Answer.{Outcome, answer_over, answer_to}
use Rattle.table.specs.declared.Caller.{Caller}
use Rattle.table_whole.specs.Judgement.{table_in}

-- version 1, as NtVer gives it
abbrev pub version_one : List ℕ
version_one = 1 ∷ 0 ∷ 0 ∷ 0 ∷ []

-- a filter's clauses leave NtVer out; others, of any source, give it as 1 and are else the same: the filter's ping is theirs, and so is all that is answered, refusals too
abbrev pub WithoutVersion : Type 0
WithoutVersion =
    (f g : List ℕ) (q r : Request)
    → request_in f ≡ Ok q → octets_of f (clause q NtVer) ≡ None → octets_of g (clause r NtVer) ≡ Some version_one
    → ((name : ClauseName) → (name ≡ NtVer → ⊥) → octets_of f (clause q name) ≡ octets_of g (clause r name))
    → (ping_from f ≡ ping_in g r)
    × ((image : List ℕ) (caller : Caller) (room : ℕ) → answer_to image caller f room ≡ (table_in image >>= λ t. ping_in g r >>= λ p. answer_over t caller p room))

abbrev pub WithoutVersionNt40 : Type 0
WithoutVersionNt40 =
    (image : List ℕ) (caller : Caller) (filter : List ℕ) (room : ℕ) (r : Request) (a : Outcome)
    → request_in filter ≡ Ok r → octets_of filter (clause r NtVer) ≡ None → answer_to image caller filter room ≡ Ok a → a.form ≡ Nt40
