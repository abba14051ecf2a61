-- Without NtVer the ping is that of the same clauses with version 1, and every server answers version 1 in the form NT40.
use Rattle.std.proofs.Common.{Ok, Option, None, Some, option_map, unwrap_or}
use mathlib.Core.Path.{◌≡◌, refl, sym, ap, ◌∙◌}
use mathlib.Core.Bool.{Bool, true, false, cond, not, ◌&&◌, ◌||◌}
use mathlib.Core.List.{List}
use Prim.Native.Nat.{ℕ}
use native.Mathlib.Omega.{arith}
use Rattle.answers.specs.declared.Form.TheVariants.{Nt40}
use Rattle.answers.specs.declared.Refusal.TheVariants.{ClauseValue}
use Rattle.answers.specs.Try.{Try, refused_if, ◌>>=◌}
use Rattle.answers.proofs.Laws.Try.{good-same, refused_if-good, good_then}
use Rattle.answers.specs.Wire.{netlogon_nt_version_1, netlogon_nt_version_avoid_nt4emul}
use Rattle.choose.specs.Choose.{form_of}
use Rattle.filter.specs.declared.request.ClauseName.{ClauseName}
use Rattle.filter.specs.declared.request.ClauseName.TheVariants.{DnsDomain, User, Aac, DomainSid, DomainGuid, NtVer}
use Rattle.filter.specs.declared.request.Request.{Request}
use Rattle.filter.specs.Request.{clause, octets_of}
use Rattle.filter_read.specs.Taken.{request_in}
use Rattle.filter_read.specs.Value.{Ping, is_number, wrong_value_lem, version_asked, ping_of, ping_in, ping_from}
use Rattle.locator.specs.Answer.{answer_over, answer_by}
use Rattle.octets.specs.Lists.{holds}
use Rattle.octets.specs.Number.{has, little}
use Rattle.table.specs.Bits.{role_nt4_wanted}
use Rattle.table.specs.Server.{Server}
use Rattle.unicode_text.specs.UserName.{is_user_name}
use Rattle.table_whole.specs.Judgement.{table_in}
use Rattle.demands.specs.WithoutVersion.{version_one, WithoutVersion, WithoutVersionNt40}
use Rattle.demands.proofs.Laws.Derivation.{derived}
use Rattle.demands.proofs.Laws.Sound.{replied}

-- the ping, by the octets of its clauses
abbrev ping_by : Option (List ℕ) → Option (List ℕ) → Option (List ℕ) → Option (List ℕ) → Option (List ℕ) → Option (List ℕ) → Try Ping
ping_by version dns user aac sid guid =
    refused_if (holds (λ x. not (is_number x)) version || holds (λ x. not (is_number x)) aac || holds (λ x. not (is_user_name x)) user) ClauseValue
    (Ok
    (record {
      dns_domain_lem = dns;
      user = user;
      aac = unwrap_or (option_map little aac) 0;
      domain_sid_lem = sid;
      domain_guid_lem = guid;
      version = unwrap_or (option_map little version) netlogon_nt_version_1;
    }))

by_octets : (s : List ℕ) (r : Request)
    → ping_in s r ≡ ping_by (octets_of s (clause r NtVer)) (octets_of s (clause r DnsDomain)) (octets_of s (clause r User)) (octets_of s (clause r Aac)) (octets_of s (clause r DomainSid)) (octets_of s (clause r DomainGuid))
unfolding ping_in wrong_value_lem version_asked
by_octets s r = refl

-- an absent NtVer is 1
absent_is_one : (dns user aac sid guid : Option (List ℕ)) → ping_by None dns user aac sid guid ≡ ping_by (Some version_one) dns user aac sid guid
unfolding little
absent_is_one dns user aac sid guid = refl

pub without-version : WithoutVersion
unfolding ping_from answer_by
without-version f g q r taken absent one others =
    let same : ping_from f ≡ ping_in g r = ap (λ (x : Try Request). x >>= ping_in f) taken ∙ alike in
    (same, λ image caller room. ap (λ (x : Try Ping). table_in image >>= λ t. x >>= λ p. answer_over t caller p room) same)
  where
    other : ClauseName → Option (List ℕ)
    other name = octets_of g (clause r name)

    alike : ping_in f q ≡ ping_in g r
    alike =
        let dns = others DnsDomain (λ e. let z : ◌≡◌ {A = ℕ} 0 1 = cc in omega arith) in
        let user = others User (λ e. let z : ◌≡◌ {A = ℕ} 0 1 = cc in omega arith) in
        let aac = others Aac (λ e. let z : ◌≡◌ {A = ℕ} 0 1 = cc in omega arith) in
        let sid = others DomainSid (λ e. let z : ◌≡◌ {A = ℕ} 0 1 = cc in omega arith) in
        let guid = others DomainGuid (λ e. let z : ◌≡◌ {A = ℕ} 0 1 = cc in omega arith) in
        by_octets f q
        ∙ (λ i. ping_by (absent i) (dns i) (user i) (aac i) (sid i) (guid i))
        ∙ absent_is_one (other DnsDomain) (other User) (other Aac) (other DomainSid) (other DomainGuid)
        ∙ ap (λ (version : Option (List ℕ)). ping_by version (other DnsDomain) (other User) (other Aac) (other DomainSid) (other DomainGuid)) (sym one)
        ∙ sym (by_octets g r)

absent-asks : (filter : List ℕ) (r : Request) (p : Ping) → octets_of filter (clause r NtVer) ≡ None → ping_in filter r ≡ Ok p → p.version ≡ netlogon_nt_version_1
unfolding ping_in version_asked
absent-asks filter r p absent e =
    let a = refused_if-good (wrong_value_lem filter r) ClauseValue (Ok (ping_of filter r (version_asked filter r))) p e in
    let same : ping_of filter r (version_asked filter r) ≡ p = good-same a.1 in
    sym (ap (λ (x : Ping). x.version) same) ∙ rw absent refl

same_either_way : (b : Bool) → cond b Nt40 Nt40 ≡ Nt40
same_either_way true = refl
same_either_way false = refl

oldest_form : (s : Server) → form_of s netlogon_nt_version_1 ≡ Nt40
unfolding form_of has
oldest_form s = same_either_way (has s.roles role_nt4_wanted && not (has netlogon_nt_version_1 netlogon_nt_version_avoid_nt4emul))

pub without-version-nt40 : WithoutVersionNt40
unfolding answer_by ping_from
without-version-nt40 image caller filter room r a taken absent e =
    let t = good_then (table_in image) _ a e in
    let p = good_then (ping_from filter) _ a t.2 in
    let q = good_then (request_in filter) _ p.0 p.1 in
    let same : q.0 ≡ r = good-same (sym q.1 ∙ taken) in
    let asked = absent-asks filter q.0 p.0 (ap (λ (x : Request). octets_of filter (clause x NtVer)) same ∙ absent) q.2 in
    let d = derived t.0 caller p.0 room a p.2 in
    (replied t.0 caller p.0 room d.context a d.replied).form ∙ ap (form_of t.0.server) asked ∙ oldest_form t.0.server
