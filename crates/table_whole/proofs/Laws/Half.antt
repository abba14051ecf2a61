-- Laws of the two halves, and of the subnets by themselves: from what is found at offsets and among marks to what is said of the table.
use Rattle.std.proofs.Common.{Option, None, Some}
use mathlib.Core.Path.{◌≡◌, refl, sym, ap, ap₂, ◌∙◌, fun_ext}
use mathlib.Core.Bool.{Bool, true, false, not, ◌&&◌, ◌||◌, and-false, and_comm}
use mathlib.Core.List.{List, map, flat_map}
use Prim.Native.Nat.{ℕ, ◌+◌, ◌*◌, ◌≤◌, ◌<◌}
use native.Mathlib.Omega.{arith}
use lib.Dec.{eqb, leb}
use lib.ListN.{length, take, length-map}
use lib.Seq.{length-take-le}
use borrow.Author.Tests.{le-leb, lt-leb}
use Rattle.octets.specs.Lists.{all, any, keep, unique, holds, none_or}
use Rattle.octets.proofs.Laws.Lists.{all_map, any-map, unique-map, all_both, unique_either, all_keep, all_flat}
use Rattle.octets.specs.Number.{u16_at}
use Rattle.octets.proofs.Laws.Number.{u16_anywhere}
use Rattle.octets.proofs.Laws.Text.{zero_octet}
use Rattle.octets.specs.Text.{same, within, all_zero}
use Rattle.table.specs.declared.ContextNumber.{ContextNumber}
use Rattle.table.specs.declared.SiteNumber.{SiteNumber}
use Rattle.table.specs.declared.record.RecordKind.{RecordKind}
use Rattle.table.specs.declared.record.RecordKind.TheVariants as kind
use Rattle.table.specs.Account.{account_of}
use Rattle.table.specs.Block.{blocks_of, kind_in, body}
use Rattle.table.specs.Context.{context_of}
use Rattle.table.specs.Countings.{same_context, same_site_lem}
use Rattle.table.specs.Format.{records_in}
use Rattle.table.specs.SameName.{same_sid, same_dns_name}
use Rattle.table.specs.Site.{site_of}
use Rattle.table.specs.Subnet.{subnet_format, same_network, subnet_of}
use Rattle.table.specs.Table.{Table, is_used, bodies, records_of, table_of, table_from}
use Rattle.table.specs.Internal.RecordAt.{record_at}
use Rattle.table_records.specs.Internal.Alike.{contexts_alike, contexts_alike_at, accounts_alike_at, subnets_alike_at}
use Rattle.table_whole.specs.Whole.{contexts_unique, accounts_unique, sites_unique, subnets_unique, has_context, has_site, refers_rightly, good_whole}
use Rattle.table_whole.specs.Internal.Half.{AllOf, SiteMarks, good_accounts, good_contexts, context_half, good_next, good_subnets, good_references, good_sites, site_half}
use Rattle.table_refer.specs.declared.mark.Marks.{Marks}
use Rattle.table_refer.specs.Internal.Mark.{Marked, same_site_at}
use Rattle.table_refer.specs.Internal.Refer.{has_number, in_contexts, is_marked_or_none, is_other_or_none, site_refers_at, subnet_refers, subnets_refer}

-- tests of what is made from the records of a kind, over their offsets
module _ {A : Type 0} (f : List ℕ → A) (kind : RecordKind) (image offsets : List ℕ) (e : AllOf kind image offsets) where
  all-at : (p : A → Bool) → all (λ q. p (f (record_at image kind q))) offsets ≡ all p (map f (records_of kind (blocks_of image)))
  all-at p = sym (ap (λ (rs : List (List ℕ)). all p (map f rs)) (sym e) ∙ all_map f p (map (record_at image kind) offsets) ∙ all_map (record_at image kind) (λ r. p (f r)) offsets)

  any_at : (p : A → Bool) → any (λ q. p (f (record_at image kind q))) offsets ≡ any p (map f (records_of kind (blocks_of image)))
  any_at p = sym (ap (λ (rs : List (List ℕ)). any p (map f rs)) (sym e) ∙ any-map f p (map (record_at image kind) offsets) ∙ any-map (record_at image kind) (λ r. p (f r)) offsets)

  unique-at : (alike : A → A → Bool) → unique (λ p q. alike (f (record_at image kind p)) (f (record_at image kind q))) offsets ≡ unique alike (map f (records_of kind (blocks_of image)))
  unique-at alike = sym (ap (λ (rs : List (List ℕ)). unique alike (map f rs)) (sym e) ∙ unique-map f alike (map (record_at image kind) offsets) ∙ unique-map (record_at image kind) (λ r s. alike (f r) (f s)) offsets)

  count_at : length (map f (records_of kind (blocks_of image))) ≡ length offsets
  count_at = length-map (records_of kind (blocks_of image)) f ∙ ap length (sym e) ∙ length-map offsets (record_at image kind)

-- contexts and their accounts
module _ (image contexts : List ℕ) (e : AllOf kind.Context image contexts) where
  pub context-found : (n : ContextNumber) → has_number image contexts n ≡ has_context (table_from image) n
  unfolding has_number has_context table_of
  context-found n = any_at context_of kind.Context image contexts e (λ c. same_context c.number n)

  pub contexts_alike_lem : unique (contexts_alike_at image) contexts ≡ contexts_unique (table_from image).contexts
  unfolding table_of contexts_unique
  contexts_alike_lem =
      let cs = (table_from image).contexts in
      unique-at context_of kind.Context image contexts e contexts_alike
      ∙ sym (ap (λ (b : Bool). (b && unique (λ c d. same_sid c.sid d.sid) cs) && unique (λ c d. same_dns_name c.dns d.dns) cs) (unique_either (λ c d. same_context c.number d.number) (λ c d. same c.guid d.guid) cs)
      ∙ ap (λ (b : Bool). b && unique (λ c d. same_dns_name c.dns d.dns) cs) (unique_either (λ c d. same_context c.number d.number || same c.guid d.guid) (λ c d. same_sid c.sid d.sid) cs)
      ∙ unique_either (λ c d. (same_context c.number d.number || same c.guid d.guid) || same_sid c.sid d.sid) (λ c d. same_dns_name c.dns d.dns) cs)

  pub accounts-good : (accounts : List ℕ) → AllOf kind.Account image accounts
      → (all (in_contexts image contexts) accounts && unique (accounts_alike_at image) accounts) ≡ good_accounts (table_from image)
  unfolding table_of good_accounts accounts_unique
  accounts-good accounts a =
      ap₂ (λ (p q : Bool). p && q)
      (ap (λ (p : ℕ → Bool). all p accounts) (fun_ext (λ q. context-found (account_of (record_at image kind.Account q)).context)) ∙ all-at account_of kind.Account image accounts a (λ a. has_context (table_from image) a.context))
      (unique-at account_of kind.Account image accounts a _)

  contexts_count : length (table_from image).contexts ≡ length contexts
  unfolding table_of
  contexts_count = count_at context_of kind.Context image contexts e

  pub no_context : length contexts ≡ 0 → false ≡ context_half (table_from image)
  unfolding context_half
  no_context z = rw (contexts_count, z)

  pub many-contexts : 16 < length contexts → false ≡ context_half (table_from image)
  unfolding context_half
  many-contexts h = rw (contexts_count, lt-leb (length contexts) 16 h, le-leb 1 (length contexts) (omega arith))

  pub some-contexts : (length contexts ≡ 0 → ⊥) → length contexts ≤ 16 → good_contexts (table_from image) ≡ context_half (table_from image)
  unfolding context_half
  some-contexts n h = rw (contexts_count, le-leb (length contexts) 16 h, le-leb 1 (length contexts) (omega arith))

-- sites referred to, where there is one
module _ (marks : Marks) (t : Table) (m : SiteMarks marks t) where
  none_or_marked : (o : Option SiteNumber) → is_marked_or_none marks o ≡ none_or (has_site t) o
  none_or_marked None = refl
  none_or_marked (Some n) = m n

other_or_none : (own : SiteNumber) (o : Option SiteNumber) → is_other_or_none own o ≡ not (holds (same_site_lem own) o)
other_or_none own None = refl
other_or_none own (Some n) = refl

-- an unused record refers to no site, and so refers rightly
unused_refers : (marks : Marks) (r : List ℕ) → (not (is_used r) || subnet_refers marks r) ≡ subnet_refers marks r
unfolding subnet_of
unused_refers marks r = go (all_zero r) refl
  where
    go : (b : Bool) → all_zero r ≡ b → (not (not b) || subnet_refers marks r) ≡ subnet_refers marks r
    go true e =
        let z : u16_at r 6 ≡ 0 = u16_anywhere r 6 ∙ ap₂ (λ (x y : ℕ). x + 256 * y) (zero_octet r 6 e) (zero_octet r 7 e) in
        rw z
    go false e = refl

-- subnets, block by block
pub subnets_refer_lem : (marks : Marks) (image : List ℕ) → SiteMarks marks (table_from image) → all (subnets_refer marks) (blocks_of image) ≡ good_subnets (table_from image)
unfolding table_of records_of bodies good_subnets
subnets_refer_lem marks image m =
    let t = table_from image in
    let p = subnet_refers marks in
    let of_kind : List ℕ → Bool = λ block. eqb (kind_in block) subnet_format.kind in
    let records : List (List ℕ) = flat_map (records_in subnet_format) (bodies subnet_format.kind (blocks_of image)) in
    sym (all_map subnet_of (λ n. none_or (has_site t) n.site) (keep is_used records)
    ∙ ap (λ (q : List ℕ → Bool). all q (keep is_used records)) (fun_ext (λ r. sym (none_or_marked marks t m (subnet_of r).site)))
    ∙ all_keep p is_used records
    ∙ ap (λ (q : List ℕ → Bool). all q records) (fun_ext (unused_refers marks))
    ∙ all_flat p (records_in subnet_format) (bodies subnet_format.kind (blocks_of image))
    ∙ all_map body (λ b. all p (records_in subnet_format b)) (keep of_kind (blocks_of image))
    ∙ all_keep (λ block. all p (records_in subnet_format (body block))) of_kind (blocks_of image))

-- sites
module _ (image sites : List ℕ) (e : AllOf kind.Site image sites) where
  pub site_marks : (marks : Marks) → Marked marks image sites → SiteMarks marks (table_from image)
  unfolding table_of has_site
  site_marks marks seen n = seen n ∙ any_at site_of kind.Site image sites e (λ s. same_site_lem s.number n)

  pub sites_refer : (marks : Marks) → SiteMarks marks (table_from image) → all (site_refers_at marks image) sites ≡ good_next (table_from image)
  unfolding table_of good_next
  sites_refer marks m =
      let t = table_from image in
      ap (λ (p : ℕ → Bool). all p sites)
      (fun_ext (λ q. let s = site_of (record_at image kind.Site q) in ap₂ (λ (a b : Bool). a && b) (none_or_marked marks t m s.next) (other_or_none s.number s.next)))
      ∙ all-at site_of kind.Site image sites e (λ s. none_or (has_site t) s.next && not (holds (same_site_lem s.number) s.next))
      ∙ sym (all_both (λ s. none_or (has_site t) s.next) (λ s. not (holds (same_site_lem s.number) s.next)) t.sites)

  sites-unique : unique (same_site_at image) sites ≡ sites_unique (table_from image).sites
  unfolding table_of sites_unique
  sites-unique = unique-at site_of kind.Site image sites e (λ s t. same_site_lem s.number t.number)

  pub sites_twice : unique (same_site_at image) sites ≡ false → false ≡ good_sites (table_from image)
  unfolding good_sites
  sites_twice f = rw (sym sites-unique ∙ f)

  pub sites-once : unique (same_site_at image) sites ≡ true → good_references (table_from image) ≡ good_sites (table_from image)
  unfolding good_sites
  sites-once t = rw (sym sites-unique ∙ t)

  sites_count : length (table_from image).sites ≡ length sites
  unfolding table_of
  sites_count = count_at site_of kind.Site image sites e

  pub no_site : length sites ≡ 0 → false ≡ site_half (table_from image)
  unfolding site_half
  no_site z = rw (sites_count, z)

  pub some-sites : (length sites ≡ 0 → ⊥) → good_sites (table_from image) ≡ site_half (table_from image)
  unfolding site_half
  some-sites n = rw (sites_count, le-leb 1 (length sites) (omega arith))

-- subnets by themselves
pub subnets-unique : (image subnets : List ℕ) → AllOf kind.Subnet image subnets → unique (subnets_alike_at image) subnets ≡ subnets_unique (table_from image).subnets
unfolding table_of subnets_unique
subnets-unique image subnets e = unique-at subnet_of kind.Subnet image subnets e same_network

-- the two halves and the subnets by themselves are the whole
halves : (t : Table) → ((context_half t && site_half t) && subnets_unique t.subnets) ≡ good_whole t
unfolding context_half good_contexts good_accounts site_half good_sites good_references good_next good_subnets good_whole refers_rightly
halves t =
    ap (λ (b : Bool). b && subnets_unique t.subnets)
    (go
    (within 1 16 (length t.contexts))
    (leb 1 (length t.sites))
    (contexts_unique t.contexts)
    (sites_unique t.sites)
    (accounts_unique t.accounts)
    (has_site t t.server.site)
    (has_context t t.server.default_context_lem)
    (all (λ a. has_context t a.context) t.accounts)
    (all (λ s. none_or (has_site t) s.next) t.sites)
    (all (λ n. none_or (has_site t) n.site) t.subnets)
    (all (λ s. not (holds (same_site_lem s.number) s.next)) t.sites))
  where
    rest : (hs hc ar nr sr ns : Bool) → ((hc && (ar && true)) && ((hs && (nr && ns)) && sr)) ≡ (((((hs && hc) && ar) && nr) && sr) && ns)
    rest false hc ar nr sr ns = and-false (hc && (ar && true))
    rest true false ar nr sr ns = refl
    rest true true false nr sr ns = refl
    rest true true true false sr ns = refl
    rest true true true true sr ns = and_comm ns sr

    go : (w l ca sa aa hs hc ar nr sr ns : Bool)
        → ((w && ((ca && hc) && (ar && aa))) && (l && (sa && ((hs && (nr && ns)) && sr)))) ≡ ((((((w && l) && ca) && sa) && aa) && ((((hs && hc) && ar) && nr) && sr)) && ns)
    go false l ca sa aa hs hc ar nr sr ns = refl
    go true false ca sa aa hs hc ar nr sr ns = and-false ((ca && hc) && (ar && aa))
    go true true false sa aa hs hc ar nr sr ns = refl
    go true true true false aa hs hc ar nr sr ns = and-false (hc && (ar && aa))
    go true true true true false hs false ar nr sr ns = refl
    go true true true true false hs true false nr sr ns = refl
    go true true true true false hs true true nr sr ns = refl
    go true true true true true hs hc ar nr sr ns = rest hs hc ar nr sr ns

module _ (t : Table) where
  pub bad-contexts : context_half t ≡ false → false ≡ good_whole t
  bad-contexts e = rw e at (halves t)

  pub bad-sites : context_half t ≡ true → site_half t ≡ false → false ≡ good_whole t
  bad-sites e f = rw (e, f) at (halves t)

  pub good_halves : context_half t ≡ true → site_half t ≡ true → subnets_unique t.subnets ≡ good_whole t
  good_halves e f = rw (e, f) at (halves t)
