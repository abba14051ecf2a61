-- 11 to 17 step by step are the judgement of the definitions.
use Rattle.std.proofs.Common.{Ok, Err, Option, None, Some, is_some}
use mathlib.Core.Path.{◌≡◌, refl, sym, ap, ◌∙◌}
use mathlib.Core.Bool.{Bool, true, false, not}
use mathlib.Core.List.{List}
use Prim.Native.Nat.{ℕ}
use lib.Dec.{eqb}
use lib.ListN.{length}
use Rattle.answers.specs.declared.Refusal.{Refusal}
use Rattle.answers.specs.declared.Refusal.TheVariants.{GuidLength, GuidNotHeld, DnsNameEmpty, DnsNameNotHeld}
use Rattle.answers.specs.Try.{Try, refused_if, ◌>>=◌}
use Rattle.answers.proofs.Laws.Try.{refused_not_good}
use Rattle.filter_read.specs.Value.{Ping}
use Rattle.octets.specs.Lists.{holds}
use Rattle.octets.specs.Sid.{guid_size}
use Rattle.table.specs.Context.{Context}
use Rattle.table.specs.Table.{Table}
use Rattle.table_lookup.specs.Lookup.{context_by_guid, context_by_dns_name}
use Rattle.choose.specs.Judge.{context_for, context_used, or_whole, context_in}
use Rattle.choose_context.specs.Internal.Used.{held_if, guid_asked, dns_name_asked, preferred, sid_judged}

-- a clause judged: its value is wrong, or nothing is found by it, or what was found goes on
one_clause : (wrong : Bool) (r s : Refusal) (found : Option Context) (rest : Try Context) (after : Option Context → Try Context)
    → ((c : Context) → found ≡ Some c → rest ≡ after (Some c)) → refused_if wrong r (refused_if (not (is_some found)) s rest) ≡ (refused_if wrong r (held_if s found) >>= after)
one_clause true r s found rest after h = refl
one_clause false r s None rest after h = refl
one_clause false r s (Some c) rest after h = h c refl

-- 15 to 17, for the context used
abbrev pub after_names : Table → Ping → Option Context → Try Context
after_names t p context = or_whole context >>= sid_judged t p.domain_sid_lem

-- 13 to 17, for what the GUID asks for
abbrev pub after_guid : Table → Ping → Option Context → Try Context
after_guid t p guid = dns_name_asked t p.dns_domain_lem >>= λ name. after_names t p (preferred t guid name)

judged_in_steps : (t : Table) (p : Ping) → context_in t p ≡ (guid_asked t p.domain_guid_lem >>= after_guid t p)
unfolding context_in context_used
judged_in_steps t p = go p.domain_guid_lem p.dns_domain_lem
  where
    sid : Context → Try Context
    sid = sid_judged t p.domain_sid_lem

    go : (guid dns : Option (List ℕ))
        → refused_if (holds (λ g. not (eqb (length g) guid_size)) guid) GuidLength
        (refused_if (holds (λ g. not (is_some (context_by_guid t g))) guid) GuidNotHeld
        (refused_if (holds (λ n. eqb (length n) 0) dns) DnsNameEmpty
        (refused_if (holds (λ n. not (is_some (context_by_dns_name t n))) dns) DnsNameNotHeld (or_whole (context_for t guid dns) >>= sid))))
        ≡ (guid_asked t guid >>= λ g. dns_name_asked t dns >>= λ name. or_whole (preferred t g name) >>= sid)
    go None None = refl
    go None (Some n) =
        one_clause (eqb (length n) 0) DnsNameEmpty DnsNameNotHeld (context_by_dns_name t n) (or_whole (context_by_dns_name t n) >>= sid) (λ name. or_whole (preferred t None name) >>= sid)
        (λ c e. ap (λ o. or_whole o >>= sid) e)
    go (Some g) None =
        one_clause (not (eqb (length g) guid_size)) GuidLength GuidNotHeld (context_by_guid t g) (or_whole (context_by_guid t g) >>= sid) (λ guid. or_whole (preferred t guid None) >>= sid)
        (λ c e. ap (λ o. or_whole o >>= sid) e)
    go (Some g) (Some n) =
        one_clause (not (eqb (length g) guid_size)) GuidLength GuidNotHeld (context_by_guid t g) _ (λ guid. dns_name_asked t (Some n) >>= λ name. or_whole (preferred t guid name) >>= sid)
        (λ c e.
        one_clause (eqb (length n) 0) DnsNameEmpty DnsNameNotHeld (context_by_dns_name t n) (or_whole (context_by_guid t g) >>= sid) (λ name. or_whole (Some c) >>= sid)
        (λ d q. ap (λ o. or_whole o >>= sid) e))

-- the same once it is known what the GUID asks for, and then what DnsDomain does
module _ (t : Table) (p : Ping) where
  pub refused_guid : (r : Refusal) → Err r ≡ guid_asked t p.domain_guid_lem → Err r ≡ context_in t p
  refused_guid r e = ap (λ (x : Try (Option Context)). x >>= after_guid t p) e ∙ sym (judged_in_steps t p)

  module _ (guid : Option Context) (e : Ok guid ≡ guid_asked t p.domain_guid_lem) where
    from_guid : after_guid t p guid ≡ context_in t p
    from_guid = ap (λ (x : Try (Option Context)). x >>= after_guid t p) e ∙ sym (judged_in_steps t p)

    pub refused_name : (r : Refusal) → Err r ≡ dns_name_asked t p.dns_domain_lem → Err r ≡ context_in t p
    refused_name r f = ap (λ (x : Try (Option Context)). x >>= λ name. after_names t p (preferred t guid name)) f ∙ from_guid

    pub from_names : (name : Option Context) → Ok name ≡ dns_name_asked t p.dns_domain_lem → after_names t p (preferred t guid name) ≡ context_in t p
    from_names name f = ap (λ (x : Try (Option Context)). x >>= λ name. after_names t p (preferred t guid name)) f ∙ from_guid

-- the context that DnsDomain asks for tells whether it names an application context
pub asked_application : (t : Table) (dns : Option (List ℕ)) (o : Option Context) → dns_name_asked t dns ≡ Ok o
    → holds (λ name. holds (λ c. c.application) (context_by_dns_name t name)) dns ≡ holds (λ c. c.application) o
asked_application t None o e =
    let f : None ≡ o = cc in
    ap (λ (x : Option Context). holds (λ c. c.application) x) f
asked_application t (Some name) o e = go (eqb (length name) 0) (context_by_dns_name t name) e
  where
    go : (wrong : Bool) (found : Option Context) → refused_if wrong DnsNameEmpty (held_if DnsNameNotHeld found) ≡ Ok o
        → holds (λ c. c.application) found ≡ holds (λ c. c.application) o
    go true found q = absurd (refused_not_good DnsNameEmpty o q)
    go false None q = absurd (refused_not_good DnsNameNotHeld o q)
    go false (Some c) q =
        let f : Some c ≡ o = cc in
        ap (λ (x : Option Context). holds (λ d. d.application) x) f
