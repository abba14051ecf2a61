-- Document 01, "The filter": "Taking apart what it wrote gives the same clauses." The statements.
use Rattle.std.specs.Prelude.{◌≡◌, List, ℕ, take, Ok}
use Rattle.filter.specs.{declared.request.ClauseName.ClauseName, declared.request.Request.Request, Request.clause, Request.octets_of}
use Rattle.answers.specs.Try.{Try}
use Rattle.filter_read.specs.Taken.{request_in, TakeApartPromise}
use Rattle.filter_write.specs.Write.{filter_for, WriteFilterReturns, WriteFilterLeaves}

-- the same clauses: for each name both are absent, or both are present with the same octets
abbrev pub SameClauses : List ℕ → Request → List ℕ → Request → Type 0
SameClauses s q source r = (name : ClauseName) → octets_of s (clause q name) ≡ octets_of source (clause r name)

-- of the definitions: for all clauses and rooms where the writer refuses nothing, its octets are taken apart to the same clauses
abbrev pub RoundTrip : Type 0
RoundTrip =
    (source : List ℕ) (r : Request) (room : ℕ) (octets : List ℕ) → filter_for source r room ≡ Ok octets
    → (q : Request) × (request_in octets ≡ Ok q) × SameClauses octets q source r

-- of the two calls, by what their contracts ensure: where `write_filter` answers with a length, `take_apart` of that many octets of the buffer answers with the same clauses
abbrev pub CallsRoundTrip : Type 0
CallsRoundTrip =
    (source : List ℕ) (r : Request) (before after : List ℕ) (w : Try ℕ) (n : ℕ) (t : Try Request)
    → WriteFilterReturns source r before w
    → WriteFilterLeaves source r before after
    → w ≡ Ok n
    → TakeApartPromise (take n after) t
    → (q : Request) × (t ≡ Ok q) × SameClauses (take n after) q source r
