-- Laws of judging an image: what an accepted one holds, and the answer by the first judgement that fails.
use Rattle.std.proofs.Common.{Ok, Err}
use mathlib.Core.Path.{◌≡◌, refl, sym, ◌∙◌, subst, ap}
use mathlib.Core.Bool.{Bool, true, false, cond, not, ◌&&◌, ◌||◌, false≢true}
use mathlib.Core.List.{List, [], ◌∷◌, map, flat_map}
use Prim.Native.Nat.{ℕ, zero, suc, ◌+◌, ◌*◌, ◌/◌, ◌%◌, ◌≤◌, ◌<◌}
use native.Mathlib.Omega.{arith}
use lib.Dec.{eqb, leb, ltb}
use lib.ListN.{length}
use borrow.Author.Tests.{eqb-true, not-true, not-false, leb-true, le-leb, lt-leb}
use Rattle.answers.specs.declared.Refusal.{Refusal}
use Rattle.answers.specs.declared.Refusal.TheVariants.{ImageLength, BlockCheck, BlockLayout, TableWhole}
use Rattle.answers.specs.Try.{Try, number_of, ◌>>=◌}
use Rattle.answers.proofs.Laws.Try.{refused_if-good}
use Rattle.octets.specs.Lists.{all, any, keep, holds, pieces}
use Rattle.octets.proofs.Laws.Lists.{Every, every_all, every_map, every_flat, every_keep, both_left, both_right, other_right, cut-length, pieces_wide}
use Rattle.octets.specs.NameRule.{dns_name_most, printable, is_dns_name, is_netbios_name, is_site_name}
use Rattle.octets.proofs.Laws.NameRule.{Writable, dns_writable, netbios_writable, site_writable, empty_writable}
use Rattle.unicode_text.proofs.Laws.Utf16.{netbios_spoken_lem, empty_spoken}
use Rattle.octets.specs.Text.{all_zero, within}
use Rattle.octets.proofs.Laws.Text.{within_low}
use Rattle.unicode_text.proofs.Laws.Utf16.{Spoken}
use Rattle.table.specs.declared.BlockPlace.{BlockPlace}
use Rattle.table.specs.declared.field.TextField.{TextField}
use Rattle.table.specs.declared.record.RecordKind.{RecordKind}
use Rattle.table.specs.declared.record.RecordKind.TheVariants as kind
use Rattle.table.specs.Block.{block_size, blocks_of, kind_in, version_in, place_in, body_offset, body_size, body}
use Rattle.table.specs.Context.{Context, context_format, context_netbios_lem, context_dns_name, context_of}
use Rattle.table.specs.Countings.{same_site_lem, same_place, next_place}
use Rattle.table.specs.Field.{text_at, field_end}
use Rattle.table.specs.Forest.{forest_kind, forest_place, forest_name, forest_of}
use Rattle.table.specs.Format.{format_of, records_in}
use Rattle.table.specs.Server.{Server, server_kind, server_place, server_netbios_lem, server_host, server_of}
use Rattle.table.specs.Address.{address_number, address_bits, is_prefix_only}
use Rattle.table.specs.Bits.{roles_bound, state_bound}
use Rattle.table.specs.Site.{Site, site_format, site_name, next_offset, site_of}
use Rattle.table.specs.Subnet.{Subnet, subnet_format, in_use_octet, subnet_site_offset, subnet_of}
use Rattle.table.specs.Table.{Table, is_used, bodies, records_of, table_of, table_from}
use Rattle.table.proofs.Laws.Format.{format_fills}
use Rattle.table_check.specs.Check.{good_check}
use Rattle.table_layout.specs.Field.{zeros, text_field, last_text}
use Rattle.table_layout.specs.Layout.{nonzero, server_layout, forest_layout, flags_layout, sid_layout, is_empty, is_context_netbios, context_layout, site_layout, subnet_layout, record_layout, records_layout, body_layout, block_layout, layouts_from}
use Rattle.table_whole.specs.Judgement.{good_length, table_in, Accepted, judged_as, JudgePromise, image_in}
use Rattle.table_whole.specs.Whole.{contexts_unique, sites_unique, accounts_unique, subnets_unique, refers_rightly, good_whole}

-- ---- what an accepted image holds

pub record Judged (image : List ℕ) : Type 0 where
  pub length : good_length image ≡ true
  pub checks : all good_check (blocks_of image) ≡ true
  pub layouts : layouts_from server_place (blocks_of image) ≡ true
  pub whole : good_whole (table_from image) ≡ true

pub length_bounds : (image : List ℕ) → good_length image ≡ true → (1024 ≤ length image) × (length image ≤ 65536)
unfolding good_length
length_bounds image e =
    let least : Bool = leb 1024 (length image) in
    let most : Bool = leb (length image) 65536 in
    let ends : least && most ≡ true = both_left (least && most) (eqb (length image % block_size) 0) e in
    (leb-true 1024 (length image) (both_left least most ends), leb-true (length image) 65536 (both_right least most ends))

-- a table that was judged good is the image's, and all judgements passed
judged : (image : List ℕ) (t : Table) → table_in image ≡ Ok t → Judged image × (table_from image ≡ t)
unfolding table_in
judged image t e =
    let blocks : List (List ℕ) = blocks_of image in
    let a = refused_if-good (not (good_length image)) ImageLength _ t e in
    let b = refused_if-good (not (all good_check blocks)) BlockCheck _ t a.1 in
    let c = refused_if-good (not (layouts_from server_place blocks)) BlockLayout _ t b.1 in
    let d = refused_if-good (not (good_whole (table_of blocks))) TableWhole _ t c.1 in
    let q : Ok (table_of blocks) ≡ Ok t = d.1 in
    (record { length = not-false _ a.0; checks = not-false _ b.0; layouts = not-false _ c.0; whole = not-false _ d.0 }, cc)

pub accepted : (image : List ℕ) (t : Table) → table_in image ≡ Ok t → Accepted image
accepted image t e = e ∙ ap Ok (sym (judged image t e).1)

-- what 4 says of a table
pub record Whole (t : Table) : Type 0 where
  pub contexts : contexts_unique t.contexts ≡ true
  pub sites : sites_unique t.sites ≡ true
  pub accounts : accounts_unique t.accounts ≡ true
  pub references : refers_rightly t ≡ true
  pub subnets : subnets_unique t.subnets ≡ true

whole : (t : Table) → good_whole t ≡ true → Whole t
unfolding good_whole
whole t e =
    let counts : Bool = within 1 16 (length t.contexts) && leb 1 (length t.sites) in
    let contexts : Bool = counts && contexts_unique t.contexts in
    let sites : Bool = contexts && sites_unique t.sites in
    let accounts : Bool = sites && accounts_unique t.accounts in
    let references : Bool = accounts && refers_rightly t in
    let next : Bool = references && all (λ s. not (holds (same_site_lem s.number) s.next)) t.sites in
    let to_references : references ≡ true = both_left references _ (both_left next _ e) in
    let to-accounts : accounts ≡ true = both_left accounts _ to_references in
    let to-sites : sites ≡ true = both_left sites _ to-accounts in
    record {
      contexts = both_right counts _ (both_left contexts _ to-sites);
      sites = both_right contexts _ to-sites;
      accounts = both_right sites _ to-accounts;
      references = both_right accounts _ to_references;
      subnets = both_right next _ e;
    }

module _ (image : List ℕ) (ok : Accepted image) where
  pub accepted-judged : Judged image
  accepted-judged = (judged image (table_from image) ok).0

  pub accepted_bounds : (1024 ≤ length image) × (length image ≤ 65536)
  accepted_bounds = length_bounds image accepted-judged.length

  pub accepted-whole : Whole (table_from image)
  accepted-whole = whole (table_from image) accepted-judged.whole

-- ---- what its table holds: texts that can be written, and GUIDs and addresses of their lengths

pub record GoodServer (s : Server) : Type 0 where
  pub address : length s.address ≡ 4
  pub netbios : Writable 15 s.netbios
  pub spoken : Spoken s.netbios
  pub host : Writable 253 s.host

pub record GoodContext (c : Context) : Type 0 where
  pub guid : length c.guid ≡ 16
  pub netbios : Writable 15 c.netbios
  pub spoken : Spoken c.netbios
  pub dns : Writable 253 c.dns
  pub filled : 1 ≤ length c.dns

abbrev pub GoodSite : Site → Type 0
GoodSite s = Writable 63 s.name

pub record GoodTable (t : Table) : Type 0 where
  pub server : GoodServer t.server
  pub forest : Writable 253 t.forest
  pub contexts : Every GoodContext t.contexts
  pub sites : Every GoodSite t.sites

-- a text by its rule

text_ruled : (rule : List ℕ → Bool) (s : List ℕ) (field : TextField) → text_field rule s field ≡ true → rule (text_at s field) ≡ true
unfolding text_field
text_ruled rule s field e =
    let short : Bool = leb _ field.room in
    let end : Bool = zeros s _ (field_end field) in
    both_right short (rule (text_at s field)) (both_left (short && rule (text_at s field)) end e)

last_ruled : (rule : List ℕ → Bool) (s : List ℕ) (field : TextField) (end : ℕ) → last_text rule s field end ≡ true → rule (text_at s field) ≡ true
unfolding last_text
last_ruled rule s field end e = text_ruled rule s field (both_left (text_field rule s field) (zeros s (field_end field) end) e)

empty_is : (s : List ℕ) → is_empty s ≡ true → s ≡ []
empty_is [] e = refl
empty_is (x ∷ xs) e = let z : suc (length xs) ≡ 0 = eqb-true (suc (length xs)) 0 e in absurd (omega arith)

-- an application context's NetBIOS name may be empty
netbios_ruled : (application : Bool) (s : List ℕ) → is_context_netbios application s ≡ true → Writable 15 s × Spoken s
netbios_ruled false s e = (netbios_writable s e, netbios_spoken_lem s e)
netbios_ruled true s e = go (is_empty s) refl
  where
    go : (b : Bool) → is_empty s ≡ b → Writable 15 s × Spoken s
    go true q = subst (λ (x : List ℕ). Writable 15 x × Spoken x) (sym (empty_is s q)) (empty_writable 15, empty_spoken)
    go false q = let n : is_netbios_name s ≡ true = other_right (is_empty s) (is_netbios_name s) e q in (netbios_writable s n, netbios_spoken_lem s n)

-- bodies and records

server-good : (b : List ℕ) → length b ≡ body_size → server_layout b ≡ true → GoodServer (server_of b)
unfolding server_layout server_of
server-good b n e =
    let s = server_of b in
    let front : Bool = ltb s.roles roles_bound && ltb s.state state_bound && nonzero s.site.0 && nonzero s.default_context_lem.0 in
    let netbios : Bool = text_field is_netbios_name b server_netbios_lem in
    let host : Bool = last_text is_dns_name b server_host body_size in
    let m : netbios ≡ true = both_right front netbios (both_left (front && netbios) host e) in
    let name : is_netbios_name (text_at b server_netbios_lem) ≡ true = text_ruled is_netbios_name b server_netbios_lem m in
    record {
      address = cut-length b 8 4 (omega arith);
      netbios = netbios_writable (text_at b server_netbios_lem) name;
      spoken = netbios_spoken_lem (text_at b server_netbios_lem) name;
      host = dns_writable (text_at b server_host) (last_ruled is_dns_name b server_host body_size (both_right (front && netbios) host e));
    }

forest-good : (b : List ℕ) → forest_layout b ≡ true → Writable 253 (forest_of b)
unfolding forest_layout forest_of
forest-good b e = dns_writable (text_at b forest_name) (last_ruled is_dns_name b forest_name body_size e)

dns-filled : (s : List ℕ) → is_dns_name s ≡ true → 1 ≤ length s
unfolding is_dns_name
dns-filled s e =
    let sized : Bool = within 1 dns_name_most (length s) in
    within_low 1 dns_name_most (length s) (both_left sized (printable s) (both_left (sized && printable s) _ e))

context-good : (b : List ℕ) → length b ≡ context_format.width → context_layout b ≡ true → GoodContext (context_of b)
unfolding context_layout context_of
context-good b n e =
    let c = context_of b in
    let front : Bool = nonzero c.number.0 && flags_layout b && not (all_zero c.guid) && sid_layout c.sid b in
    let netbios : Bool = text_field (is_context_netbios c.application) b context_netbios_lem in
    let dns : Bool = last_text is_dns_name b context_dns_name context_format.width in
    let m : netbios ≡ true = both_right front netbios (both_left (front && netbios) dns e) in
    let name : Writable 15 (text_at b context_netbios_lem) × Spoken (text_at b context_netbios_lem) = netbios_ruled c.application (text_at b context_netbios_lem) (text_ruled (is_context_netbios c.application) b context_netbios_lem m) in
    let text : is_dns_name (text_at b context_dns_name) ≡ true = last_ruled is_dns_name b context_dns_name context_format.width (both_right (front && netbios) dns e) in
    record { guid = cut-length b 4 16 (omega arith); netbios = name.0; spoken = name.1; dns = dns_writable (text_at b context_dns_name) text; filled = dns-filled (text_at b context_dns_name) text }

site-good : (r : List ℕ) → site_layout r ≡ true → GoodSite (site_of r)
unfolding site_layout site_of
site-good r e =
    let number : Bool = nonzero (site_of r).number.0 in
    let name : Bool = text_field is_site_name r site_name in
    site_writable (text_at r site_name) (text_ruled is_site_name r site_name (both_right number name (both_left (number && name) (zeros r (next_offset + 2) site_format.width) e)))

-- blocks by their kind

pub record LaidBlock (block : List ℕ) : Type 0 where
  pub wide : length block ≡ block_size
  pub place : BlockPlace
  pub laid : body_layout place (kind_in block) (body block) ≡ true

body_laid : (place : BlockPlace) (block : List ℕ) → block_layout place block ≡ true → body_layout place (kind_in block) (body block) ≡ true
unfolding block_layout
body_laid place block e = both_right (eqb (version_in block) 1 && same_place (place_in block) place) (body_layout place (kind_in block) (body block)) e

body_wide : (block : List ℕ) → length block ≡ block_size → length (body block) ≡ body_size
body_wide block n = cut-length block body_offset body_size (omega arith)

blocks_laid : (blocks : List (List ℕ)) (place : BlockPlace) → Every (λ b. length b ≡ block_size) blocks → layouts_from place blocks ≡ true → Every LaidBlock blocks
unfolding layouts_from
blocks_laid [] place w e = tt
blocks_laid (block ∷ blocks) place w e =
    let here : Bool = block_layout place block in
    let rest : Bool = layouts_from (next_place place) blocks in
    (record { wide = w.0; place = place; laid = body_laid place block (both_left here rest e) }, blocks_laid blocks (next_place place) w.1 (both_right here rest e))

-- a body of records, wherever its block stands, keeps to their layout
records_laid : (k : RecordKind) (place : BlockPlace) (b : List ℕ) → body_layout place (format_of k).kind b ≡ true → all (record_layout k) (records_in (format_of k) b) ≡ true
unfolding body_layout records_layout any
records_laid k place b = go k
  where
    elsewhere : (x y z : Bool) → cond x false (cond y false (z || false)) ≡ true → z ≡ true
    elsewhere true y z e = absurd (false≢true e)
    elsewhere false true z e = absurd (false≢true e)
    elsewhere false false true e = refl
    elsewhere false false false e = e

    go : (k : RecordKind) → body_layout place (format_of k).kind b ≡ true → all (record_layout k) (records_in (format_of k) b) ≡ true
    go kind.Context = elsewhere (same_place place server_place) (same_place place forest_place) _
    go kind.Account = elsewhere (same_place place server_place) (same_place place forest_place) _
    go kind.Site = elsewhere (same_place place server_place) (same_place place forest_place) _
    go kind.Subnet = elsewhere (same_place place server_place) (same_place place forest_place) _

-- a used record of a kind: of its width, and by its layout
pub record LaidRecord (k : RecordKind) (r : List ℕ) : Type 0 where
  pub wide : length r ≡ (format_of k).width
  pub laid : record_layout k r ≡ true
  pub used : is_used r ≡ true

module _ (k : RecordKind) where
  abbrev Kept : List ℕ → Type 0
  Kept r = (length r ≡ (format_of k).width) × (record_layout k r ≡ true)

  abbrev Body : List ℕ → Type 0
  Body b = (length b ≡ body_size) × (all (record_layout k) (records_in (format_of k) b) ≡ true)

  abbrev Block : List ℕ → Type 0
  Block x = Body (body x)

  both_kept : (rs : List (List ℕ)) → Every (λ r. length r ≡ (format_of k).width) rs → Every (λ r. record_layout k r ≡ true) rs → Every Kept rs
  both_kept [] w l = tt
  both_kept (r ∷ rs) w l = ((w.0, l.0), both_kept rs w.1 l.1)

  body_kept : (b : List ℕ) → Body b → Every Kept (records_in (format_of k) b)
  body_kept b q =
      let fits : (format_of k).count * (format_of k).width ≤ length b = omega (arith, format_fills k, q.0) in
      both_kept (records_in (format_of k) b) (pieces_wide (format_of k).count (format_of k).width b fits) (every_all (record_layout k) (λ r. record_layout k r ≡ true) (λ r l. l) (records_in (format_of k) b) q.1)

  block_kept : (x : List ℕ) → eqb (kind_in x) (format_of k).kind ≡ true → LaidBlock x → Block x
  block_kept x q g = (body_wide x g.wide, records_laid k g.place (body x) (subst (λ (n : ℕ). body_layout g.place n (body x) ≡ true) (eqb-true (kind_in x) (format_of k).kind q) g.laid))

  pub records_good : (blocks : List (List ℕ)) → Every LaidBlock blocks → Every (LaidRecord k) (records_of k blocks)
  unfolding bodies records_of
  records_good blocks ok =
      let kept : List (List ℕ) = keep (λ x. eqb (kind_in x) (format_of k).kind) blocks in
      every_keep is_used Kept (LaidRecord k) (λ r u q. record { wide = q.0; laid = q.1; used = u }) (flat_map (records_in (format_of k)) (map body kept))
      (every_flat (records_in (format_of k)) Body Kept body_kept (map body kept)
      (every_map body Block Body (λ x q. q) kept
      (every_keep (λ x. eqb (kind_in x) (format_of k).kind) LaidBlock Block block_kept blocks ok)))

contexts-good : (blocks : List (List ℕ)) → Every LaidBlock blocks → Every GoodContext (map context_of (records_of kind.Context blocks))
contexts-good blocks ok = every_map context_of (LaidRecord kind.Context) GoodContext (λ r q. context-good r q.wide q.laid) (records_of kind.Context blocks) (records_good kind.Context blocks ok)

sites-good : (blocks : List (List ℕ)) → Every LaidBlock blocks → Every GoodSite (map site_of (records_of kind.Site blocks))
sites-good blocks ok =
    every_map site_of (LaidRecord kind.Site) GoodSite
    (λ r q. site-good r (other_right (all_zero r) (site_layout r) q.laid (not-true (all_zero r) q.used)))
    (records_of kind.Site blocks) (records_good kind.Site blocks ok)

-- the first two blocks

two-pieces : (n w : ℕ) (s : List ℕ) → 2 ≤ n → (a b : List ℕ) × (rest : List (List ℕ)) × (pieces n w s ≡ a ∷ b ∷ rest)
unfolding pieces
two-pieces zero w s h = absurd (omega arith)
two-pieces (suc zero) w s h = absurd (omega arith)
two-pieces (suc (suc n)) w s h = (_, _, _, refl)

first_good : (a : List ℕ) (rest : List (List ℕ)) → length a ≡ block_size → layouts_from server_place (a ∷ rest) ≡ true → GoodServer (server_of (body a))
unfolding layouts_from body_layout
first_good a rest n e =
    let l : eqb (kind_in a) server_kind && server_layout (body a) ≡ true = body_laid server_place a (both_left (block_layout server_place a) (layouts_from forest_place rest) e) in
    server-good (body a) (body_wide a n) (both_right (eqb (kind_in a) server_kind) (server_layout (body a)) l)

second-good : (a b : List ℕ) (rest : List (List ℕ)) → layouts_from server_place (a ∷ b ∷ rest) ≡ true → Writable 253 (forest_of (body b))
unfolding layouts_from body_layout
second-good a b rest e =
    let f : block_layout forest_place b && layouts_from (next_place forest_place) rest ≡ true = both_right (block_layout server_place a) (layouts_from forest_place (b ∷ rest)) e in
    let l : eqb (kind_in b) forest_kind && forest_layout (body b) ≡ true = body_laid forest_place b (both_left (block_layout forest_place b) (layouts_from (next_place forest_place) rest) f) in
    forest-good (body b) (both_right (eqb (kind_in b) forest_kind) (forest_layout (body b)) l)

table-good : (a b : List ℕ) (rest : List (List ℕ)) → Every (λ x. length x ≡ block_size) (a ∷ b ∷ rest) → layouts_from server_place (a ∷ b ∷ rest) ≡ true → GoodTable (table_of (a ∷ b ∷ rest))
unfolding table_of
table-good a b rest wide laid =
    let ok : Every LaidBlock (a ∷ b ∷ rest) = blocks_laid (a ∷ b ∷ rest) server_place wide laid in
    record {
      server = first_good a (b ∷ rest) wide.0 laid;
      forest = second-good a b rest laid;
      contexts = contexts-good (a ∷ b ∷ rest) ok;
      sites = sites-good (a ∷ b ∷ rest) ok;
    }

pub accepted-good : (image : List ℕ) → Accepted image → GoodTable (table_from image)
unfolding blocks_of
accepted-good image ok =
    let m : 1024 ≤ length image = (accepted_bounds image ok).0 in
    let wide : Every (λ x. length x ≡ block_size) (blocks_of image) = pieces_wide (length image / block_size) block_size image (omega arith) in
    let p = two-pieces (length image / block_size) block_size image (omega arith) in
    subst (λ (x : List (List ℕ)). Every (λ y. length y ≡ block_size) x → layouts_from server_place x ≡ true → GoodTable (table_of x)) (sym p.3) (table-good p.0 p.1 p.2) wide (accepted-judged image ok).layouts

-- of the table that was judged

module _ (image : List ℕ) (t : Table) (e : table_in image ≡ Ok t) where
  pub judged-good : GoodTable t
  judged-good = subst GoodTable (judged image t e).1 (accepted-good image (accepted image t e))

  pub judged-whole : Whole t
  judged-whole = subst Whole (judged image t e).1 (accepted-whole image (accepted image t e))

-- ---- the address bits of a subnet past its prefix are zero

abbrev pub PrefixOnly : Subnet → Type 0
PrefixOnly n = is_prefix_only n.prefix (address_number n.address) ≡ true

prefix-only : (r : List ℕ) → subnet_layout r ≡ true → PrefixOnly (subnet_of r)
unfolding subnet_layout
prefix-only r e =
    let n = subnet_of r in
    let short : Bool = leb n.prefix address_bits in
    let network : Bool = is_prefix_only n.prefix (address_number n.address) in
    let used : Bool = eqb (in_use_octet r) 1 in
    both_right short network (both_left (short && network) used (both_left (short && network && used) (zeros r (subnet_site_offset + 2) subnet_format.width) e))

pub accepted_prefixes : (image : List ℕ) → Accepted image → Every PrefixOnly (table_from image).subnets
unfolding blocks_of table_of
accepted_prefixes image ok =
    let m : 1024 ≤ length image = (accepted_bounds image ok).0 in
    let wide : Every (λ x. length x ≡ block_size) (blocks_of image) = pieces_wide (length image / block_size) block_size image (omega arith) in
    every_map subnet_of (LaidRecord kind.Subnet) PrefixOnly
    (λ r q. prefix-only r (other_right (all_zero r) (subnet_layout r) q.laid (not-true (all_zero r) q.used)))
    (records_of kind.Subnet (blocks_of image)) (records_good kind.Subnet (blocks_of image) (blocks_laid (blocks_of image) server_place wide (accepted-judged image ok).layouts))

-- ---- the answer by the first judgement that fails

module _ (image : List ℕ) where
  -- a length below, above, and between, where the block size must divide it
  pub length_below : length image < 1024 → false ≡ good_length image
  unfolding good_length
  length_below h = rw (lt-leb 1024 (length image) h)

  pub length_above : 1024 ≤ length image → 65536 < length image → false ≡ good_length image
  unfolding good_length
  length_above h k = rw (le-leb 1024 (length image) h, lt-leb (length image) 65536 k)

  pub length-between : 1024 ≤ length image → length image ≤ 65536 → eqb (length image % block_size) 0 ≡ good_length image
  unfolding good_length
  length-between h k = rw (le-leb 1024 (length image) h, le-leb (length image) 65536 k)

  pub refused-length : good_length image ≡ false → Err ImageLength ≡ judged_as (table_in image)
  unfolding table_in
  refused-length e = rw e

  module _ (l : good_length image ≡ true) where
    pub refused_check : all good_check (blocks_of image) ≡ false → Err BlockCheck ≡ judged_as (table_in image)
    unfolding table_in
    refused_check e = rw (l, e)

    module _ (c : all good_check (blocks_of image) ≡ true) where
      pub refused_layout : layouts_from server_place (blocks_of image) ≡ false → Err BlockLayout ≡ judged_as (table_in image)
      unfolding table_in
      refused_layout e = rw (l, c, e)

      module _ (y : layouts_from server_place (blocks_of image) ≡ true) where
        pub refused-whole : good_whole (table_from image) ≡ false → Err TableWhole ≡ judged_as (table_in image)
        unfolding table_in
        refused-whole e = rw (l, c, y, e)

        pub passed : good_whole (table_from image) ≡ true → Ok tt ≡ judged_as (table_in image)
        unfolding table_in
        passed e = rw (l, c, y, e)

-- ---- what a judgement says of the image

pub judge_promised : (image : List ℕ) (r : Try (Unit {0})) → r ≡ judged_as (table_in image) → JudgePromise image r
judge_promised image r e = record { same = e; numbered = ap number_of e ∙ numbers (table_in image) }
  where
    numbers : (t : Try Table) → number_of (judged_as t) ≡ number_of t
    numbers (Err x) = refl
    numbers (Ok t) = refl

pub passed_accepted : (image : List ℕ) → Ok tt ≡ judged_as (table_in image) → Accepted image
passed_accepted image e = go (table_in image) refl e
  where
    go : (t : Try Table) → table_in image ≡ t → Ok tt ≡ judged_as t → Accepted image
    go (Err x) q k = let z : ◌≡◌ {A = ℕ} 0 1 = cc in absurd (omega arith)
    go (Ok t) q k = accepted image t q

pub judged-refused : (t : Try Table) (x : Refusal) → Err x ≡ judged_as t → t ≡ Err x
judged-refused (Err y) x e = let z : x ≡ y = cc in ap Err (sym z)
judged-refused (Ok t) x e = let z : ◌≡◌ {A = ℕ} 0 1 = cc in absurd (omega arith)

-- an image that passed, and one that was refused
pub passed-image : (image : List ℕ) → Ok tt ≡ judged_as (table_in image) → Ok image ≡ image_in image
passed-image image e = go (table_in image) e
  where
    go : (t : Try Table) → Ok tt ≡ judged_as t → Ok image ≡ (t >>= λ u. Ok image)
    go (Err x) k = let z : ◌≡◌ {A = ℕ} 0 1 = cc in absurd (omega arith)
    go (Ok t) k = refl

pub refused-image : (image : List ℕ) (x : Refusal) → Err x ≡ judged_as (table_in image) → Err x ≡ image_in image
refused-image image x e = sym (ap (λ (t : Try Table). t >>= λ u. Ok image) (judged-refused (table_in image) x e))
