-- Document 01, "Answer numbers" 11 to 17 and "Choosing the answer": the context used.
use Rattle.std.specs.Prelude.{not, List, ℕ, eqb, length, Ok, Err, Option, None, Some, is_some}
use Rattle.answers.specs.declared.Refusal.TheVariants.{GuidLength, GuidNotHeld, DnsNameEmpty, DnsNameNotHeld, SidShape, SidNotHeld, SidOfAnother, TableWhole}
use Rattle.answers.specs.Try.{Try, refused_if, ◌>>=◌}
use Rattle.filter_read.specs.Value.{Ping}
use Rattle.octets.specs.{Lists.holds, Sid.is_sid, Sid.guid_size}
use Rattle.table.specs.{Context.Context, Table.Table}
use Rattle.table_find.specs.Find.{holds_sid}
use Rattle.table_lookup.specs.Lookup.{context_by_guid, context_by_dns_name, context_by_sid, default_context_lem}

-- the GUID's context where a GUID is given, else the DNS name's where one is given, else the default
abbrev pub context_for : Table → Option (List ℕ) → Option (List ℕ) → Option Context
context_for t (Some guid) dns = context_by_guid t guid
context_for t None (Some name) = context_by_dns_name t name
context_for t None None = default_context_lem t

unfoldable pub context_used : Table → Ping → Option Context
context_used t p = context_for t p.domain_guid_lem p.dns_domain_lem

-- after 14 only the default can be missing, which 4 has ruled out
abbrev pub or_whole : Option Context → Try Context
or_whole None = Err TableWhole
or_whole (Some c) = Ok c

-- 11 to 17 in order; a clause that is absent is refused for nothing
unfoldable pub context_in : Table → Ping → Try Context
context_in t p =
    let guid = p.domain_guid_lem in
    let dns = p.dns_domain_lem in
    let sid = p.domain_sid_lem in
    refused_if (holds (λ g. not (eqb (length g) guid_size)) guid) GuidLength
    (refused_if (holds (λ g. not (is_some (context_by_guid t g))) guid) GuidNotHeld
    (refused_if (holds (λ n. eqb (length n) 0) dns) DnsNameEmpty
    (refused_if (holds (λ n. not (is_some (context_by_dns_name t n))) dns) DnsNameNotHeld
    (or_whole (context_used t p) >>= λ c.
    refused_if (holds (λ s. not (is_sid s)) sid) SidShape
    (refused_if (holds (λ s. not (is_some (context_by_sid t s))) sid) SidNotHeld
    (refused_if (holds (λ s. not (holds_sid s c)) sid) SidOfAnother (Ok c)))))))
