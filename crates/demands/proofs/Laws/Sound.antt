-- A good answer was made from good parts, so that its reply can be written and read.
use Rattle.std.proofs.Common.{Ok, Option, None, Some, option_map, unwrap_or, option_and_then, is_some}
use mathlib.Core.Path.{◌≡◌, refl, sym, ap, subst}
use mathlib.Core.Bool.{Bool, true, false, cond, not, ◌&&◌}
use mathlib.Core.List.{List, [], ◌∷◌}
use Prim.Native.Nat.{ℕ, ◌^◌, ◌<◌, ◌≤◌}
use native.Mathlib.Omega.{arith}
use lib.Dec.{eqb, ltb}
use lib.ListN.{length}
use borrow.Author.Tests.{eqb-false, not-false}
use Rattle.answers.specs.declared.Form.{Form}
use Rattle.answers.specs.declared.Form.TheVariants.{Ex}
use Rattle.answers.specs.declared.Refusal.TheVariants.{GuidLength, GuidNotHeld, DnsNameEmpty, DnsNameNotHeld, SidShape, SidNotHeld, SidOfAnother, UserLabelEmpty, NoRoom, TableWhole}
use Rattle.answers.specs.Wire.{netlogon_nt_version_5ex_with_ip, netlogon_nt_version_with_closest_site, opcodes_of}
use Rattle.answers.proofs.Laws.Try.{refused_if-good, good-same, good_then, refused_not_good}
use Rattle.filter_read.specs.Value.{Ping}
use Rattle.unicode_text.specs.UserName.{is_user_name}
use Rattle.unicode_text.proofs.Laws.UserName.{user-name-short, user-name_spoken}
use Rattle.locator.specs.Answer.{Outcome, wrong_user, reply_to}
use Rattle.choose.specs.Choose.{next_site_lem, reply_for, form_of}
use Rattle.choose.specs.Judge.{context_for, context_used, or_whole, context_in}
use Rattle.choose.proofs.Laws.Choose.{opcode-good, flags-fit}
use Rattle.octets.specs.Label.{labels}
use Rattle.octets.specs.Lists.{any, first, holds}
use Rattle.octets.proofs.Laws.Lists.{Every, none_not_some, every_none, found, both_left}
use Rattle.octets.proofs.Laws.NameRule.{Writable, empty_writable, short_writable}
use Rattle.unicode_text.proofs.Laws.Utf16.{empty_spoken}
use Rattle.octets.specs.Number.{has}
use Rattle.octets.specs.Sid.{is_sid}
use Rattle.unicode_text.proofs.Laws.Utf16.{Spoken}
use Rattle.reader.proofs.Laws.Reader.{GoodOpcode}
use Rattle.reply.specs.Reply.{Reply, octets_in}
use Rattle.table.specs.Bits.{role_level2008}
use Rattle.table.specs.declared.Caller.{Caller}
use Rattle.table.specs.declared.SiteNumber.{SiteNumber}
use Rattle.table.specs.Context.{Context}
use Rattle.table.specs.Site.{Site}
use Rattle.table.specs.Subnet.{Subnet}
use Rattle.table.specs.Countings.{same_site_lem}
use Rattle.table.specs.Table.{Table}
use Rattle.table_find.specs.Find.{holds_sid}
use Rattle.table_lookup.specs.Lookup.{context_by_guid, context_by_dns_name, context_by_sid, context_by_number, default_context_lem, site_by_number, site_if_any, site_of_subnet, site_for, client_site_lem, subnet_for}
use Rattle.table_whole.proofs.Laws.Judgement.{GoodContext, GoodSite, GoodTable, judged-good}
use Rattle.demands.specs.Derivation.{AcceptedTable, GoodPing, Derivation, said, ReplyIs, EveryAnswerOver}
use Rattle.demands.proofs.Laws.Derivation.{derived}

-- ---- the context used is one of the table's

context-found : (t : Table) (p : Ping) (c : Context) → GoodTable t → context_used t p ≡ Some c → GoodContext c
unfolding context_used context_by_guid context_by_dns_name default_context_lem context_by_number
context-found t p c g e = go p.domain_guid_lem p.dns_domain_lem e
  where
    go : (guid dns : Option (List ℕ)) → context_for t guid dns ≡ Some c → GoodContext c
    go (Some guid) dns q = (found _ GoodContext t.contexts c g.contexts q).0
    go None (Some name) q = (found _ GoodContext t.contexts c g.contexts q).0
    go None None q = (found _ GoodContext t.contexts c g.contexts q).0

whole-good : (o : Option Context) (c : Context) → or_whole o ≡ Ok c → o ≡ Some c
whole-good None c e = absurd (refused_not_good TableWhole c e)
whole-good (Some d) c e = let k : d ≡ c = cc in ap Some k

context-good : (t : Table) (p : Ping) (c : Context) → GoodTable t → context_in t p ≡ Ok c → GoodContext c
unfolding context_in
context-good t p c g e =
    let guid : Option (List ℕ) = p.domain_guid_lem in
    let dns : Option (List ℕ) = p.dns_domain_lem in
    let sid : Option (List ℕ) = p.domain_sid_lem in
    let e1 = refused_if-good (holds (λ x. not (eqb (length x) 16)) guid) GuidLength _ c e in
    let e2 = refused_if-good (holds (λ x. not (is_some (context_by_guid t x))) guid) GuidNotHeld _ c e1.1 in
    let e3 = refused_if-good (holds (λ n. eqb (length n) 0) dns) DnsNameEmpty _ c e2.1 in
    let e4 = refused_if-good (holds (λ n. not (is_some (context_by_dns_name t n))) dns) DnsNameNotHeld _ c e3.1 in
    let d = good_then (or_whole (context_used t p)) _ c e4.1 in
    let f1 = refused_if-good (holds (λ s. not (is_sid s)) sid) SidShape _ c d.2 in
    let f2 = refused_if-good (holds (λ s. not (is_some (context_by_sid t s))) sid) SidNotHeld _ c f1.1 in
    let f3 = refused_if-good (holds (λ s. not (holds_sid s d.0)) sid) SidOfAnother _ c f2.1 in
    subst GoodContext (good-same f3.1) (context-found t p d.0 g (whole-good (context_used t p) d.0 d.1))

-- ---- the user asked for

-- nothing, or a text of at most 63 octets that UTF-16 can say
abbrev UserGood : Option (List ℕ) → Type 0
UserGood None = Unit {0}
UserGood (Some x) = Spoken x × (length x ≤ 63)

user-good : (p : Ping) → GoodPing p → UserGood p.user
user-good p e = go p.user e
  where
    go : (o : Option (List ℕ)) → holds (λ x. not (is_user_name x)) o ≡ false → UserGood o
    go None q = tt
    go (Some x) q =
        let t : is_user_name x ≡ true = not-false (is_user_name x) q in
        (user-name_spoken x t, user-name-short x t)

user_spoken_short : (o : Option (List ℕ)) → UserGood o → Spoken (unwrap_or o []) × (length (unwrap_or o []) ≤ 63)
user_spoken_short None u = (empty_spoken, omega arith)
user_spoken_short (Some x) u = u

-- in the EX form, after 18, no label is empty
user_writable : (p : Ping) → UserGood p.user → wrong_user Ex p ≡ false → Writable 63 (unwrap_or p.user [])
unfolding wrong_user
user_writable p u e = go p.user u e
  where
    go : (o : Option (List ℕ)) → UserGood o → holds (λ name. any (λ l. eqb (length l) 0) (labels name)) o ≡ false → Writable 63 (unwrap_or o [])
    go None u q = empty_writable 63
    go (Some x) u q =
        short_writable x u.1
        (every_none (λ l. eqb (length l) 0) (λ l. 1 ≤ length l) (λ l z. let n : length l ≡ 0 → ⊥ = eqb-false (length l) 0 z in omega arith) (labels x) q)

-- ---- sites are of the table

abbrev SiteGood : Option Site → Type 0
SiteGood None = Unit {0}
SiteGood (Some s) = GoodSite s

module _ (t : Table) (g : GoodTable t) where
  by_number : (n : SiteNumber) → SiteGood (site_by_number t n)
  unfolding site_by_number
  by_number n = go (first (λ s. same_site_lem s.number n) t.sites) refl
    where
      go : (o : Option Site) → first (λ s. same_site_lem s.number n) t.sites ≡ o → SiteGood o
      go None q = tt
      go (Some s) q = (found (λ s. same_site_lem s.number n) GoodSite t.sites s g.sites q).0

  if_any : (n : Option SiteNumber) → SiteGood (site_if_any t n)
  if_any None = tt
  if_any (Some n) = by_number n

  of_subnet : (n : Option Subnet) → SiteGood (site_of_subnet t n)
  of_subnet None = tt
  of_subnet (Some n) = if_any n.site

  of_client : (caller : Caller) → SiteGood (client_site_lem t caller)
  unfolding client_site_lem
  of_client caller = go t.sites g.sites
    where
      go : (sites : List Site) → Every GoodSite sites → SiteGood (site_for t caller sites)
      go [] k = tt
      go (s ∷ []) k = k.0
      go (s ∷ r ∷ rest) k = of_subnet (subnet_for t caller)

  site-next : (o : Option Site) → SiteGood (option_and_then (λ s. site_if_any t s.next) o)
  site-next None = tt
  site-next (Some s) = if_any s.next

  -- name 8 is a site's name, and v asked for it
  next-good : (v : ℕ) (o : Option Site) (text : List ℕ) → next_site_lem t v o ≡ Some text → Writable 63 text × (has v netlogon_nt_version_with_closest_site ≡ true)
  unfolding next_site_lem
  next-good v o text e = go (has v netlogon_nt_version_with_closest_site && has t.server.roles role_level2008) refl e
    where
      name : (x : Option Site) → SiteGood x → option_map (λ s. s.name) x ≡ Some text → Writable 63 text
      name None k q = absurd (none_not_some text q)
      name (Some s) k q = let z : s.name ≡ text = cc in subst (Writable 63) z k

      go : (b : Bool) → has v netlogon_nt_version_with_closest_site && has t.server.roles role_level2008 ≡ b
          → cond b (option_map (λ s. s.name) (option_and_then (λ s. site_if_any t s.next) o)) None ≡ Some text
          → Writable 63 text × (has v netlogon_nt_version_with_closest_site ≡ true)
      go true q r = (name (option_and_then (λ s. site_if_any t s.next) o) (site-next o) r, both_left (has v netlogon_nt_version_with_closest_site) (has t.server.roles role_level2008) q)
      go false q r = absurd (none_not_some text r)

site-name : (o : Option Site) → SiteGood o → Writable 63 (unwrap_or (option_map (λ s. s.name) o) [])
site-name None k = empty_writable 63
site-name (Some s) k = k

-- ---- a reply that can be written in its form, and read with v

pub record Sound (form : Form) (v : ℕ) (r : Reply) : Type 0 where
  pub guid : length r.guid ≡ 16
  pub ipv4 : length r.ipv4 ≡ 4
  pub forest : Writable 253 r.forest
  pub dns : Writable 253 r.dns
  pub host : Writable 253 r.host
  pub netbios : Writable 15 r.netbios
  pub netbios_spoken : Spoken r.netbios
  pub server : Writable 15 r.server
  pub server_spoken : Spoken r.server
  pub user : form ≡ Ex → Writable 63 r.user
  pub user_spoken : Spoken r.user
  pub user_short : length r.user ≤ 63
  pub own_site_lem : Writable 63 r.own_site_lem
  pub client_site_lem : Writable 63 r.client_site_lem
  pub address : r.with_address_lem ≡ has v netlogon_nt_version_5ex_with_ip
  pub next_site_lem : (text : List ℕ) → r.next_site_lem ≡ Some text → Writable 63 text × (has v netlogon_nt_version_with_closest_site ≡ true)
  pub opcode : GoodOpcode (opcodes_of form) r.opcode
  pub flags : r.flags < 256 ^ 4

reply_sound : (t : Table) (caller : Caller) (p : Ping) (c : Context) (form : Form) → GoodTable t → GoodContext c → UserGood p.user → wrong_user form p ≡ false → Sound form p.version (reply_for t caller p c form)
unfolding reply_for
reply_sound t caller p c form g k u w =
    record {
      guid = k.guid;
      ipv4 = g.server.address;
      forest = g.forest;
      dns = k.dns;
      host = g.server.host;
      netbios = k.netbios;
      netbios_spoken = k.spoken;
      server = g.server.netbios;
      server_spoken = g.server.spoken;
      user = λ e. user_writable p u (rw e at w);
      user_spoken = (user_spoken_short p.user u).0;
      user_short = (user_spoken_short p.user u).1;
      own_site_lem = site-name (site_by_number t t.server.site) (by_number t g t.server.site);
      client_site_lem = site-name (client_site_lem t caller) (of_client t g caller);
      address = refl;
      next_site_lem = next-good t g p.version (client_site_lem t caller);
      opcode = opcode-good form _ _;
      flags = flags-fit form t p (client_site_lem t caller);
    }

pub record Replied (t : Table) (caller : Caller) (p : Ping) (c : Context) (a : Outcome) : Type 0 where
  pub octets : a.octets ≡ octets_in a.form (reply_for t caller p c a.form)
  pub user : wrong_user a.form p ≡ false
  pub form : a.form ≡ form_of t.server p.version

pub replied : (t : Table) (caller : Caller) (p : Ping) (room : ℕ) (c : Context) (a : Outcome) → reply_to t caller p room c ≡ Ok a → Replied t caller p c a
unfolding reply_to
replied t caller p room c a e =
    let form : Form = form_of t.server p.version in
    let octets : List ℕ = octets_in form (reply_for t caller p c form) in
    let b = refused_if-good (wrong_user form p) UserLabelEmpty _ a e in
    let d = refused_if-good (ltb room (length octets)) NoRoom _ a b.1 in
    subst (Replied t caller p c) (good-same d.1) (record { octets = refl; user = b.0; form = refl })

module _ {t : Table} {caller : Caller} {p : Ping} {room : ℕ} {a : Outcome} (d : Derivation t caller p room a) where
  said-octets : a.octets ≡ octets_in a.form (said d)
  said-octets = (replied t caller p room d.context a d.replied).octets

  said_sound : AcceptedTable t → GoodPing p → Sound a.form p.version (said d)
  said_sound passed user =
      let g : GoodTable t = judged-good passed.image t passed.judged in
      reply_sound t caller p d.context a.form g (context-good t p d.context g d.used) (user-good p user) (replied t caller p room d.context a d.replied).user

-- what holds of every reply that can be written and read holds of every answer's
pub every_sound : (P : Form → ℕ → Reply → List ℕ → Type 0) → ((form : Form) (v : ℕ) (r : Reply) → Sound form v r → P form v r (octets_in form r)) → EveryAnswerOver (ReplyIs P)
every_sound P law t caller p room a passed user e =
    let d = derived t caller p room a e in
    (d, subst (P a.form p.version (said d)) (sym (said-octets d)) (law a.form p.version (said d) (said_sound d passed user)))
