-- The reader takes apart what stands in the order of its fields, for each of the three forms.
use Rattle.std.proofs.Common.{Ok, Option, None, Some}
use mathlib.Core.Path.{◌≡◌, refl, ap, subst}
use mathlib.Core.Bool.{Bool, true, false}
use mathlib.Core.List.{List, [], ◌∷◌, ◌++◌, map, append_assoc, append-nil}
use Prim.Native.Nat.{ℕ, zero, suc, ◌+◌, ◌-◌, ◌^◌, ◌<◌, ◌≤◌}
use native.Mathlib.Omega.{arith}
use lib.Dec.{eqb}
use lib.ListN.{length, get_or, length-append}
use borrow.Author.Tests.{eq-eqb, le-leb}
use Rattle.answers.specs.Wire.{netlogon_nt_version_5ex_with_ip, netlogon_nt_version_with_closest_site, nt40_version, response_version, ex_version, ex_version_with_next_site, Opcodes, older_opcodes, ex_opcodes, is_one_of, Sbz, NullGuid, LmNtToken, Lm20Token, DcSockAddrSize, sin_family, sin_zero}
use Rattle.names.specs.WalkRelation.{Walks}
use Rattle.names.proofs.Laws.Name.{Row, stops, goes}
use Rattle.octets.specs.Label.{labels}
use Rattle.octets.proofs.Laws.Label.{size, joined-labels}
use Rattle.octets.specs.Lists.{cut}
use Rattle.octets.proofs.Laws.Lists.{Every}
use Rattle.octets.specs.Number.{little_octets, has}
use Rattle.octets.proofs.Laws.Number.{length-little, little-back}
use Rattle.unicode_text.specs.Utf16.{utf16, points_octets}
use Rattle.unicode_text.proofs.Laws.Utf16.{Spoken}
use Rattle.reader.proofs.Laws.Field.{Left, left-start, left_after, left-next, left-length, left_cut, left-same, octets_here, stretch_here, fixed_here}
use Rattle.reader.specs.Name.{read_name}
use Rattle.reader.proofs.Laws.Name.{name_here}
use Rattle.octets.specs.declared.part.Stretch.{Stretch}
use Rattle.reader.specs.Text.{read_text}
use Rattle.reader.proofs.Laws.Text.{text_here, text-after}
use Rattle.reader.specs.Reader.{NameRead, ExFields, Fields, nt40, response, ex, read_opcode, read_number, read_names, read_constant, read_tokens, read_opening, read_nt40, read_response, read_address, has_next_site, Last, read_last, read_ex}

-- ---- numbers and fixed fields

module _ {s : List ℕ} {at : ℕ} (rest : List ℕ) where
  pub constant_here : (w n : ℕ) → Left s at (little_octets w n ++ rest) → read_constant w n s at ≡ Ok (record { value = little_octets w n; next = at + w })
  constant_here w n l = fixed_here (little_octets w n) rest w (length-little w n) l

  pub number-after : (w n : ℕ) → Left s at (little_octets w n ++ rest) → Left s (at + w) rest
  number-after w n l = left-next (little_octets w n) rest w (length-little w n) l

  pub number_here : (n : ℕ) → n < 256 ^ 4 → Left s at (little_octets 4 n ++ rest) → read_number s at ≡ Ok (record { value = n; next = at + 4 })
  unfolding read_number
  number_here n h l = rw (octets_here (little_octets 4 n) rest 4 (length-little 4 n) l, little-back 4 n h)

-- an opcode of a form, as it fits into its two octets
pub record GoodOpcode (codes : Opcodes) (n : ℕ) : Type 0 where
  pub known : is_one_of codes n ≡ true
  pub fits : n < 256 ^ 2

opcode_here : {s : List ℕ} (rest : List ℕ) (codes : Opcodes) (n : ℕ) → GoodOpcode codes n → Left s 0 (little_octets 2 n ++ rest) → read_opcode codes s ≡ Ok (record { value = n; next = 0 + 2 })
unfolding read_opcode
opcode_here rest codes n g l = rw (octets_here (little_octets 2 n) rest 2 (length-little 2 n) l, little-back 2 n g.fits, g.known)

-- the version and the two tokens, which end every reply
abbrev pub tokens : List ℕ
tokens = little_octets 2 LmNtToken ++ little_octets 2 Lm20Token

abbrev pub ending : ℕ → List ℕ
ending version = little_octets 4 version ++ tokens

pub tokens_here : {A : Type 0} {s : List ℕ} {at : ℕ} (fields : A) → Left s at tokens → read_tokens s at fields ≡ Ok fields
unfolding read_tokens
tokens_here {s = s} {at = at} fields l =
    let token : List ℕ = little_octets 2 Lm20Token in
    let m : Left s (at + 2) token = number-after token 2 LmNtToken l in
    let k : Left s (at + 2) (token ++ []) = rw (append-nil token) m in
    let n : length s ≡ at + 2 + length token = left-length token m in
    let e : at + 2 + 2 ≡ length s = omega (arith, length-little 2 Lm20Token) in
    rw (constant_here token 2 LmNtToken l, constant_here [] 2 Lm20Token k, eq-eqb (at + 2 + 2) (length s) e)

-- ---- texts

-- a text of UTF-16 that stands here, read as its stretch
pub record Told (s : List ℕ) (at : ℕ) (text rest : List ℕ) : Type 0 where
  pub reads : read_text s at ≡ Ok (record { value = record { start = at; len = length (utf16 text) }; next = at + length (utf16 text) + 2 })
  pub stretch : cut s at (length (utf16 text)) ≡ utf16 text
  pub left : Left s (at + length (utf16 text) + 2) rest

told : {s : List ℕ} {at : ℕ} (text rest : List ℕ) → Spoken text → Left s at (utf16 text ++ (little_octets 2 0 ++ rest)) → Told s at text rest
told {s} {at} text rest k l =
    let m : Left s at (points_octets k.codes ++ (little_octets 2 0 ++ rest)) = rw k.said at l in
    record {
      reads = rw k.said (text_here k.codes rest k.scalars m);
      stretch = left_cut (utf16 text) (little_octets 2 0 ++ rest) l;
      left = text-after (utf16 text) rest l;
    }

-- the opcode and the three texts, before what follows
abbrev pub opening : ℕ → List ℕ → List ℕ → List ℕ → List ℕ → List ℕ
opening opcode server user domain rest =
    little_octets 2 opcode
    ++ (utf16 server ++ (little_octets 2 0 ++ (utf16 user ++ (little_octets 2 0 ++ (utf16 domain ++ (little_octets 2 0 ++ rest))))))

pub record Opened (s : List ℕ) (opcode : ℕ) (server user domain rest : List ℕ) : Type 0 where
  pub server_at : Stretch
  pub user_at : Stretch
  pub domain_at : Stretch
  pub next : ℕ
  pub reads : read_opening s ≡ Ok (record { value = record { opcode = opcode; server = server_at; user = user_at; domain = domain_at }; next = next })
  pub left : Left s next rest
  pub server_is : cut s server_at.start server_at.len ≡ utf16 server
  pub user_is : cut s user_at.start user_at.len ≡ utf16 user
  pub domain_is : cut s domain_at.start domain_at.len ≡ utf16 domain

pub opened : (s : List ℕ) (opcode : ℕ) (server user domain rest : List ℕ) → s ≡ opening opcode server user domain rest → GoodOpcode older_opcodes opcode
    → Spoken server → Spoken user → Spoken domain → Opened s opcode server user domain rest
unfolding read_opening
opened s opcode server user domain rest e code a b c =
    let after_domain : List ℕ = little_octets 2 0 ++ rest in
    let after_user : List ℕ = little_octets 2 0 ++ (utf16 domain ++ after_domain) in
    let after_server : List ℕ = little_octets 2 0 ++ (utf16 user ++ after_user) in
    let l0 : Left s 0 (little_octets 2 opcode ++ (utf16 server ++ after_server)) = subst (Left s 0) e (left-start s) in
    let l1 : Left s (0 + 2) (utf16 server ++ after_server) = number-after (utf16 server ++ after_server) 2 opcode l0 in
    let t1 = told server (utf16 user ++ after_user) a l1 in
    let t2 = told user (utf16 domain ++ after_domain) b t1.left in
    let t3 = told domain rest c t2.left in
    record {
      server_at = record { start = 0 + 2; len = length (utf16 server) };
      user_at = record { start = 0 + 2 + length (utf16 server) + 2; len = length (utf16 user) };
      domain_at = record { start = 0 + 2 + length (utf16 server) + 2 + length (utf16 user) + 2; len = length (utf16 domain) };
      next = 0 + 2 + length (utf16 server) + 2 + length (utf16 user) + 2 + length (utf16 domain) + 2;
      reads = rw (opcode_here (utf16 server ++ after_server) older_opcodes opcode code l0, t1.reads, t2.reads, t3.reads);
      left = t3.left;
      server_is = t1.stretch;
      user_is = t2.stretch;
      domain_is = t3.stretch;
    }

-- ---- names

-- names as they are given back
abbrev pub given_back_lem : List ℕ → List (List ℕ) → List ℕ → List NameRead
given_back_lem (at ∷ ats) (text ∷ texts) (c ∷ counts) = record { start = at; text = text; pointers = c } ∷ given_back_lem ats texts counts
given_back_lem [] texts counts = []
given_back_lem (at ∷ ats) [] counts = []
given_back_lem (at ∷ ats) (text ∷ texts) [] = []

-- their texts are those that went in, and at each place stand the offset and the count of the name there
pub texts-given : {s : List ℕ} {k at end : ℕ} {ats counts : List ℕ} {texts : List (List ℕ)} → Row s k at ats texts counts end → map (λ n. n.text) (given_back_lem ats texts counts) ≡ texts
texts-given stops = refl
texts-given (goes {text = text} a b w r) = ap (λ (x : List (List ℕ)). text ∷ x) (texts-given r)

pub given-length : {s : List ℕ} {k at end : ℕ} {ats counts : List ℕ} {texts : List (List ℕ)} → Row s k at ats texts counts end → length (given_back_lem ats texts counts) ≡ length texts
given-length stops = refl
given-length (goes a b w r) = ap suc (given-length r)

pub given-at : {s : List ℕ} {k at end : ℕ} {ats counts : List ℕ} {texts : List (List ℕ)} → Row s k at ats texts counts end → (other : NameRead) (i : ℕ) → i < length texts
    → get_or (given_back_lem ats texts counts) i other ≡ record { start = get_or ats i 0; text = get_or texts i []; pointers = get_or counts i 0 }
given-at stops other i h = absurd (omega arith)
given-at (goes a b w r) other zero h = refl
given-at (goes a b w r) other (suc i) h = given-at r other i (omega arith)

name-given : {s : List ℕ} {at c next : ℕ} (text : List ℕ) → Walks s at at (labels text) c next → size (labels text) ≤ 255 → c ≤ 16
    → read_name s at ≡ Ok (record { value = record { labels = labels text; pointers = c }; next = next })
name-given text w room few = name_here w room few

names_here : {s : List ℕ} {k at end : ℕ} {ats counts : List ℕ} {texts : List (List ℕ)} → Row s k at ats texts counts end → k + length texts ≤ 17 → Every (λ text. size (labels text) ≤ 255) texts
    → read_names (length texts) s at ≡ Ok (record { value = given_back_lem ats texts counts; next = end })
unfolding read_names
names_here stops few room = refl
names_here {s} {k} (goes {c = c} {end = end} {text = text} {cs = cs} {texts = texts} a b w r) few room =
    rw (name-given text w room.0 (omega arith), names_here r (omega arith) room.1, joined-labels text)

-- ---- the forms

pub read-nt40 : (s : List ℕ) (opcode : ℕ) (server user domain : List ℕ) (o : Opened s opcode server user domain (ending nt40_version))
    → read_nt40 s ≡ Ok (nt40 (record { opcode = opcode; server = o.server_at; user = o.user_at; domain = o.domain_at; version = nt40_version }))
unfolding read_nt40
read-nt40 s opcode server user domain o =
    let l : Left s o.next (little_octets 4 nt40_version ++ tokens) = o.left in
    rw (o.reads, constant_here tokens 4 nt40_version l, tokens_here _ (number-after tokens 4 nt40_version l))

-- names that stand at their places in s: where the first starts, how many octets they take, and the pointers of each
pub record NamesRow (s : List ℕ) (at : ℕ) (texts : List (List ℕ)) (octets : List ℕ) : Type 0 where
  pub starts : List ℕ
  pub counts : List ℕ
  pub row : Row s 0 at starts texts counts (at + length octets)
  pub short : Every (λ text. size (labels text) ≤ 255) texts

row_here : {s : List ℕ} {at : ℕ} {texts : List (List ℕ)} {octets : List ℕ} (n : ℕ) → length texts ≡ n → n ≤ 17 → (r : NamesRow s at texts octets)
    → read_names n s at ≡ Ok (record { value = given_back_lem r.starts texts r.counts; next = at + length octets })
row_here {s} {at} {texts} {octets} n e h r =
    subst (λ (m : ℕ). read_names m s at ≡ Ok (record { value = given_back_lem r.starts texts r.counts; next = at + length octets })) e (names_here r.row (omega arith) r.short)

module _ (s : List ℕ) (opcode : ℕ) (server user domain guid : List ℕ) (texts : List (List ℕ)) (octets ipv4 : List ℕ) (flags : ℕ) where
  abbrev pub after_head : List ℕ
  after_head = octets ++ (ipv4 ++ (little_octets 4 flags ++ ending response_version))

  pub read-response : (o : Opened s opcode server user domain (guid ++ (NullGuid ++ after_head))) → length guid ≡ 16 → length ipv4 ≡ 4 → flags < 256 ^ 4 → length texts ≡ 3
      → (at : ℕ) → Left s at after_head → (r : NamesRow s at texts octets)
      → read_response s
      ≡ Ok
      (response
      (record {
        opcode = opcode;
        server = o.server_at;
        user = o.user_at;
        domain = o.domain_at;
        guid = record { start = o.next; len = 16 };
        names = given_back_lem r.starts texts r.counts;
        ipv4 = record { start = at + length octets; len = 4 };
        flags = flags;
        version = response_version;
      }))
  unfolding read_response
  read-response o g i f three at here r =
      let l1 : Left s (o.next + 16) (NullGuid ++ after_head) = left-next guid (NullGuid ++ after_head) 16 g o.left in
      let l2 : Left s (o.next + 16 + 16) after_head = left-next NullGuid after_head 16 refl l1 in
      let same-offset : at ≡ o.next + 16 + 16 = left-same after_head here l2 in
      let names : read_names 3 s (o.next + 16 + 16) ≡ Ok (record { value = given_back_lem r.starts texts r.counts; next = at + length octets }) =
      subst (λ (x : ℕ). read_names 3 s x ≡ Ok (record { value = given_back_lem r.starts texts r.counts; next = at + length octets })) same-offset (row_here 3 three (omega arith) r) in
      let l3 : Left s (at + length octets) (ipv4 ++ (little_octets 4 flags ++ ending response_version)) = left_after octets (ipv4 ++ (little_octets 4 flags ++ ending response_version)) here in
      let l4 : Left s (at + length octets + 4) (little_octets 4 flags ++ ending response_version) = left-next ipv4 (little_octets 4 flags ++ ending response_version) 4 i l3 in
      let l5 : Left s (at + length octets + 4 + 4) (little_octets 4 response_version ++ tokens) = number-after (ending response_version) 4 flags l4 in
      let l6 : Left s (at + length octets + 4 + 4 + 4) tokens = number-after tokens 4 response_version l5 in
      rw (
        o.reads,
        stretch_here guid (NullGuid ++ after_head) 16 g o.left,
        fixed_here NullGuid after_head 16 refl l1,
        names,
        stretch_here ipv4 (little_octets 4 flags ++ ending response_version) 4 i l3,
        number_here (ending response_version) flags f l4,
        constant_here tokens 4 response_version l5,
        tokens_here _ l6,
      )

-- ---- EX: the address and name 8, where they are written

abbrev pub address : Bool → List ℕ → List ℕ
address true ipv4 = (DcSockAddrSize ∷ []) ++ (little_octets 4 sin_family ++ (ipv4 ++ sin_zero))
address false ipv4 = []

-- its four octets, where it starts at an offset
abbrev pub address_given : Bool → ℕ → Option Stretch
address_given true at = Some (record { start = at + 1 + 4; len = 4 })
address_given false at = None

address_here : {s : List ℕ} {at : ℕ} (b : Bool) (ipv4 rest : List ℕ) → length ipv4 ≡ 4 → Left s at (address b ipv4 ++ rest)
    → read_address b s at ≡ Ok (record { value = address_given b at; next = at + length (address b ipv4) })
unfolding read_address
address_here {s} {at} false ipv4 rest i l =
    let e : at ≡ at + 0 = omega arith in
    ap (λ (x : ℕ). Ok (record { value = None; next = x })) e
address_here {s} {at} true ipv4 rest i l =
    let zeros : List ℕ = sin_zero ++ rest in
    let m : Left s at ((DcSockAddrSize ∷ []) ++ (little_octets 4 sin_family ++ (ipv4 ++ zeros))) = simp append_assoc at l in
    let l1 : Left s (at + 1) (little_octets 4 sin_family ++ (ipv4 ++ zeros)) = left-next (DcSockAddrSize ∷ []) (little_octets 4 sin_family ++ (ipv4 ++ zeros)) 1 refl m in
    let l2 : Left s (at + 1 + 4) (ipv4 ++ zeros) = number-after (ipv4 ++ zeros) 4 sin_family l1 in
    let l3 : Left s (at + 1 + 4 + 4) (sin_zero ++ rest) = left-next ipv4 zeros 4 i l2 in
    let n : length (address true ipv4) ≡ 17 = simp length-append (omega (arith, length-little 4 sin_family)) in
    let e : at + 1 + 4 + 4 + 8 ≡ at + length (address true ipv4) = omega arith in
    rw (
      fixed_here (DcSockAddrSize ∷ []) (little_octets 4 sin_family ++ (ipv4 ++ zeros)) 1 refl m,
      constant_here (ipv4 ++ zeros) 4 sin_family l1,
      stretch_here ipv4 zeros 4 i l2,
      fixed_here sin_zero rest 8 refl l3,
    )
    (ap (λ (x : ℕ). Ok (record { value = address_given true at; next = x })) e)

-- whether name 8 is there shows in the version 8 octets from the end
next-site_shown : {s : List ℕ} {at : ℕ} (version : ℕ) → version < 256 ^ 4 → Left s at (ending version) → has_next_site s ≡ eqb version ex_version_with_next_site
unfolding has_next_site
next-site_shown {s} {at} version h l =
    let n : length s ≡ at + length (ending version) = left-length (ending version) l in
    let m : length (ending version) ≡ 8 = simp length-append (omega (arith, length-little 4 version, length-little 2 Lm20Token)) in
    let e : length s - 8 ≡ at = omega arith in
    let c : cut s at 4 ≡ little_octets 4 version = subst (λ (x : ℕ). cut s at x ≡ little_octets 4 version) (length-little 4 version) (left_cut (little_octets 4 version) tokens l) in
    rw (e, c, little-back 4 version h, le-leb 8 (length s) (omega arith))

-- the octets of name 8, if there is one, and the version by it
abbrev pub last : Option (List ℕ) → List ℕ → List ℕ
last None octets = ending ex_version
last (Some text) octets = octets ++ ending ex_version_with_next_site

-- name 8 at its place, where it is there and v asks for it
abbrev pub LastAt : List ℕ → ℕ → ℕ → Option (List ℕ) → List ℕ → ℕ → Type 0
LastAt s v at None octets count = Unit {0}
LastAt s v at (Some text) octets count = Walks s at at (labels text) count (at + length octets) × (size (labels text) ≤ 255) × (count ≤ 16) × (has v netlogon_nt_version_with_closest_site ≡ true)

abbrev pub last_given : Option (List ℕ) → ℕ → ℕ → Last
last_given None at count = record { next_site_lem = None; version = ex_version }
last_given (Some text) at count = record { next_site_lem = Some (record { start = at; text = text; pointers = count }); version = ex_version_with_next_site }

last_here : {s : List ℕ} {at : ℕ} (v : ℕ) (site : Option (List ℕ)) (octets : List ℕ) (count : ℕ) (fields : Fields) → Left s at (last site octets) → LastAt s v at site octets count
    → (next : ℕ) × (read_last (has_next_site s) v s at ≡ Ok (record { value = last_given site at count; next = next })) × (read_tokens s next fields ≡ Ok fields)
unfolding read_last
last_here {s} {at} v None octets count fields l k =
    (at + 4, rw (next-site_shown ex_version (omega arith) l, constant_here tokens 4 ex_version l), tokens_here fields (number-after tokens 4 ex_version l))
last_here {s} {at} v (Some text) octets count fields l k =
    let m : Left s (at + length octets) (ending ex_version_with_next_site) = left_after octets (ending ex_version_with_next_site) l in (
      at + length octets + 4,
      rw (next-site_shown ex_version_with_next_site (omega arith) m, name-given text k.0 k.1 k.2, constant_here tokens 4 ex_version_with_next_site m, k.3, joined-labels text),
      tokens_here fields (number-after tokens 4 ex_version_with_next_site m),
    )

-- what the reader then gives back, with the names' end at an offset
abbrev pub ex_given : ℕ → ℕ → ℕ → List NameRead → ℕ → Last → ExFields
ex_given v opcode flags names end given =
    record {
      opcode = opcode;
      flags = flags;
      guid = record { start = 0 + 2 + 2 + 4; len = 16 };
      names = names;
      ipv4 = address_given (has v netlogon_nt_version_5ex_with_ip) end;
      next_site_lem = given.next_site_lem;
      version = given.version;
    }

module _ (s : List ℕ) (v opcode flags : ℕ) (guid : List ℕ) (texts : List (List ℕ)) (octets ipv4 : List ℕ) (site : Option (List ℕ)) (last_octets : List ℕ) (last_count : ℕ) where
  abbrev pub after_names_lem : List ℕ
  after_names_lem = address (has v netlogon_nt_version_5ex_with_ip) ipv4 ++ last site last_octets

  pub read-ex : (at : ℕ) → s ≡ little_octets 2 opcode ++ (little_octets 2 Sbz ++ (little_octets 4 flags ++ (guid ++ (octets ++ after_names_lem))))
      → GoodOpcode ex_opcodes opcode → flags < 256 ^ 4 → length guid ≡ 16 → length ipv4 ≡ 4 → length texts ≡ 8
      → Left s at (octets ++ after_names_lem) → (r : NamesRow s at texts octets) → LastAt s v (at + length octets + length (address (has v netlogon_nt_version_5ex_with_ip) ipv4)) site last_octets last_count
      → read_ex v s
      ≡ Ok
      (ex
      (ex_given v opcode flags (given_back_lem r.starts texts r.counts) (at + length octets)
      (last_given site (at + length octets + length (address (has v netlogon_nt_version_5ex_with_ip) ipv4)) last_count)))
  unfolding read_ex
  read-ex at e code f g i eight here r k =
      let l0 : Left s 0 (little_octets 2 opcode ++ (little_octets 2 Sbz ++ (little_octets 4 flags ++ (guid ++ (octets ++ after_names_lem))))) = subst (Left s 0) e (left-start s) in
      let l1 : Left s (0 + 2) (little_octets 2 Sbz ++ (little_octets 4 flags ++ (guid ++ (octets ++ after_names_lem)))) = number-after _ 2 opcode l0 in
      let l2 : Left s (0 + 2 + 2) (little_octets 4 flags ++ (guid ++ (octets ++ after_names_lem))) = number-after _ 2 Sbz l1 in
      let l3 : Left s (0 + 2 + 2 + 4) (guid ++ (octets ++ after_names_lem)) = number-after _ 4 flags l2 in
      let l4 : Left s (0 + 2 + 2 + 4 + 16) (octets ++ after_names_lem) = left-next guid (octets ++ after_names_lem) 16 g l3 in
      let same-offset : at ≡ 0 + 2 + 2 + 4 + 16 = left-same (octets ++ after_names_lem) here l4 in
      let names : read_names 8 s (0 + 2 + 2 + 4 + 16) ≡ Ok (record { value = given_back_lem r.starts texts r.counts; next = at + length octets }) =
      subst (λ (x : ℕ). read_names 8 s x ≡ Ok (record { value = given_back_lem r.starts texts r.counts; next = at + length octets })) same-offset (row_here 8 eight (omega arith) r) in
      let l5 : Left s (at + length octets) (address (has v netlogon_nt_version_5ex_with_ip) ipv4 ++ last site last_octets) = left_after octets after_names_lem here in
      let l6 : Left s (at + length octets + length (address (has v netlogon_nt_version_5ex_with_ip) ipv4)) (last site last_octets) = left_after (address (has v netlogon_nt_version_5ex_with_ip) ipv4) (last site last_octets) l5 in
      let fields : Fields =
      ex
      (ex_given v opcode flags (given_back_lem r.starts texts r.counts) (at + length octets)
      (last_given site (at + length octets + length (address (has v netlogon_nt_version_5ex_with_ip) ipv4)) last_count)) in
      let end = last_here v site last_octets last_count fields l6 k in
      rw (
        opcode_here _ ex_opcodes opcode code l0,
        constant_here _ 2 Sbz l1,
        number_here _ flags f l2,
        stretch_here guid (octets ++ after_names_lem) 16 g l3,
        names,
        address_here (has v netlogon_nt_version_5ex_with_ip) ipv4 (last site last_octets) i l5,
        end.1,
        end.2,
      )
