-- What is gathered, as numbers: for each clause name 0 where it is absent, else its start times 65,536 and its length.
use Rattle.std.specs.Prelude.{Bool, cond, not, List, ℕ, ◌+◌, ◌*◌, ◌/◌, ◌%◌, eqb, get_or, Option, None, Some}
use Rattle.octets.specs.declared.part.Stretch.{Stretch}
use Rattle.filter.specs.declared.request.ClauseName.{ClauseName}
use Rattle.filter.specs.declared.request.ClauseName.TheVariants.{DnsDomain, Host, DnsHostName, User, Aac, DomainSid, DomainGuid, NtVer}
use Rattle.filter.specs.Request.{Clause, request_by}
use Rattle.filter_gather.specs.Internal.Gather.{Gathered}

abbrev pub clause_count : ℕ
clause_count = 8

abbrev pub packed : Stretch → ℕ
packed t = 65536 * t.start + t.len

abbrev pub clause_seen : ℕ → Clause
clause_seen x = cond (eqb x 0) None (Some (record { start = x / 65536; len = x % 65536 }))

abbrev pub is_seen : ℕ → Bool
is_seen x = not (eqb x 0)

-- the place of a clause name, in document 01's order
abbrev pub place_of : ClauseName → ℕ
place_of DnsDomain = 0
place_of Host = 1
place_of DnsHostName = 2
place_of User = 3
place_of Aac = 4
place_of DomainSid = 5
place_of DomainGuid = 6
place_of NtVer = 7

abbrev pub place_as : Option ClauseName → ℕ
place_as None = 8
place_as (Some name) = place_of name

unfoldable pub decoded : List ℕ → Bool → Bool → Gathered
decoded xs unknown duplicate =
    record { request = request_by (λ name. clause_seen (get_or xs (place_of name) 0)); unknown = unknown; duplicate = duplicate }
