-- Document 01, "The filter": the eight clause names, and a request's clause for each.
use Rattle.std.specs.Prelude.{List, [], ◌∷◌, ℕ, Option, option_map}
use Rattle.octets.specs.{declared.part.Stretch.Stretch, Stretch.stretch_of}
use Rattle.filter.specs.{declared.request.ClauseName.ClauseName, declared.request.Request.Request}
use Rattle.filter.specs.declared.request.ClauseName.TheVariants.{DnsDomain, Host, DnsHostName, User, Aac, DomainSid, DomainGuid, NtVer}

-- the clause names, in document 01's order
abbrev pub clause_names : List ClauseName
clause_names = DnsDomain ∷ Host ∷ DnsHostName ∷ User ∷ Aac ∷ DomainSid ∷ DomainGuid ∷ NtVer ∷ []

-- how a name is spelled, as document 01 lists it
abbrev pub spelling : ClauseName → List ℕ
spelling DnsDomain = 0x44 ∷ 0x6E ∷ 0x73 ∷ 0x44 ∷ 0x6F ∷ 0x6D ∷ 0x61 ∷ 0x69 ∷ 0x6E ∷ []
spelling Host = 0x48 ∷ 0x6F ∷ 0x73 ∷ 0x74 ∷ []
spelling DnsHostName = 0x44 ∷ 0x6E ∷ 0x73 ∷ 0x48 ∷ 0x6F ∷ 0x73 ∷ 0x74 ∷ 0x4E ∷ 0x61 ∷ 0x6D ∷ 0x65 ∷ []
spelling User = 0x55 ∷ 0x73 ∷ 0x65 ∷ 0x72 ∷ []
spelling Aac = 0x41 ∷ 0x41 ∷ 0x43 ∷ []
spelling DomainSid = 0x44 ∷ 0x6F ∷ 0x6D ∷ 0x61 ∷ 0x69 ∷ 0x6E ∷ 0x53 ∷ 0x69 ∷ 0x64 ∷ []
spelling DomainGuid = 0x44 ∷ 0x6F ∷ 0x6D ∷ 0x61 ∷ 0x69 ∷ 0x6E ∷ 0x47 ∷ 0x75 ∷ 0x69 ∷ 0x64 ∷ []
spelling NtVer = 0x4E ∷ 0x74 ∷ 0x56 ∷ 0x65 ∷ 0x72 ∷ []

-- a clause is absent, or present with its stretch of octets; present and empty is present
abbrev pub Clause : Type 0
Clause = Option Stretch

-- the request whose clause for each name is given
abbrev pub request_by : (ClauseName → Clause) → Request
request_by f =
    record {
      dns_domain = f DnsDomain;
      «host» = f Host;
      dns_host_name = f DnsHostName;
      «user» = f User;
      «aac» = f Aac;
      domain_sid = f DomainSid;
      domain_guid = f DomainGuid;
      nt_ver = f NtVer;
    }

abbrev pub clause : Request → ClauseName → Clause
clause r DnsDomain = r.dns_domain
clause r Host = r.«host»
clause r DnsHostName = r.dns_host_name
clause r User = r.«user»
clause r Aac = r.«aac»
clause r DomainSid = r.domain_sid
clause r DomainGuid = r.domain_guid
clause r NtVer = r.nt_ver

-- the octets of a clause: those of its stretch that lie in the source
abbrev pub octets_of : List ℕ → Clause → Option (List ℕ)
octets_of s c = option_map (stretch_of s) c
