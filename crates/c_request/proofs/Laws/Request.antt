-- A clause is what its members say.
use mathlib.Core.Path.{◌≡◌, refl}
use lib.Dec.{eqb}
use Rattle.std.proofs.Common.{None, Some}
use Rattle.filter.specs.Request.{Clause}
use Rattle.c_request.specs.Request.{clause_unless, presence, start_of, length_of, RequestHandedOn}

clause_again : (c : Clause) → clause_unless (eqb (presence c) 0) (start_of c) (length_of c) ≡ c
clause_again None = refl
clause_again (Some t) = refl

pub request_handed_on : RequestHandedOn
request_handed_on r =
    rw (
      clause_again r.dns_domain,
      clause_again r.«host»,
      clause_again r.dns_host_name,
      clause_again r.«user»,
      clause_again r.«aac»,
      clause_again r.domain_sid,
      clause_again r.domain_guid,
      clause_again r.nt_ver,
    )
