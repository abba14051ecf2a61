-- #113 is proved: of both forms, for any texts that are names, and so of every answer.
use Rattle.std.proofs.Common.{Option, None, Some}
use mathlib.Core.Path.{◌≡◌, refl, sym, ap, ap₂, ◌∙◌}
use mathlib.Core.Bool.{true, false}
use mathlib.Core.List.Memᴰ
use mathlib.Core.List.{List, [], ◌∷◌, ◌++◌, map, flat_map, append-nil, append_assoc}
use Prim.Native.Nat.{ℕ, ◌+◌, ◌≤◌}
use native.Mathlib.Nat.{zero-add}
use native.Mathlib.Omega.{arith}
use lib.ListN.{length, replicate, length-append}
use borrow.Author.Tests.{le-leb}
use Rattle.answers.specs.declared.Form.{Form}
use Rattle.answers.specs.declared.Form.TheVariants.{Nt40, Response, Ex}
use Rattle.answers.specs.Wire.{response_version, ex_version, ex_version_with_next_site}
use Rattle.names.specs.Name.{Tail, Writing, pointer_to, literal_label, write_labels, write_name, write_names}
use Rattle.octets.specs.Label.{parts, labels, joined}
use Rattle.octets.specs.Lists.{all, first}
use Rattle.octets.specs.NameRule.{sized}
use Rattle.octets.specs.Number.{big_octets, little_octets}
use Rattle.octets.specs.Text.{same}
use Rattle.octets.proofs.Laws.Label.{Plain, Dotless, labels_plain}
use Rattle.octets.proofs.Laws.Lists.{Every, every_all, all_every, every_weaken, every_append}
use Rattle.octets.proofs.Laws.NameRule.{Writable}
use Rattle.octets.proofs.Laws.Text.{within_low, within-high}
use Rattle.reply.specs.Reply.{Reply, u32, text16, ending, opening, nt40_octets, response_head, response_names, response_octets, ex_head, ex_names, address_if, ex_last, ex_octets, octets_in}
use Rattle.unicode_text.specs.Utf16.{utf16}
use Rattle.unicode_text.specs.Utf8.{points_from}
use Rattle.demands.specs.Derivation.{ReplyIs}
use Rattle.demands.proofs.Laws.Derivation.{every_answer, every_reply}
use Rattle.demands.proofs.Laws.Forms.Ex.{ex_plain}
use Rattle.demands.proofs.Laws.Forms.Response.{response_plain}
use Rattle.demands.proofs.Laws.Length.{sound_length}
use Rattle.demands.proofs.Laws.Sound.{Sound, every_sound}
use Rattle.shortest.specs.Shortest.{Field, fixed, name, last_fields, fields_of, ended, label, pointer, done, field, named, is_name, texts_of, AreNames, DocumentReplyCompared, NoneShorter, AllReadBack, Longer, SomeLonger, Shortest, ShortestAnswerOver, ShortestCall}
use Rattle.shortest.specs.Internal.ByField.{written}
use Rattle.shortest.proofs.Laws.Least.{least, fields_compared}
use Rattle.shortest.proofs.Laws.ReadBack.{says_names}

-- ---- document 01's octets, field by field

names-row : (texts : List (List ℕ)) (tails : List Tail) (at : ℕ) (fields : List Field)
    → written tails at (map name texts ++ fields)
    ≡ (write_names tails at texts).octets ++ written (tails ++ (write_names tails at texts).tails) (at + length (write_names tails at texts).octets) fields
unfolding written write_names
names-row [] tails at fields = let n : at ≡ at + 0 = omega arith in ap₂ (λ (ts : List Tail) (k : ℕ). written ts k fields) (sym (append-nil tails)) n
names-row (text ∷ texts) tails at fields =
    let one : Writing = write_name tails at text in
    let more : Writing = write_names (tails ++ one.tails) (at + length one.octets) texts in
    let n : at + length one.octets + length more.octets ≡ at + length (one.octets ++ more.octets) = simp length-append (omega arith) in
    ap (λ (s : List ℕ). one.octets ++ s) (names-row texts (tails ++ one.tails) (at + length one.octets) fields)
    ∙ ap₂ (λ (ts : List Tail) (k : ℕ). one.octets ++ (more.octets ++ written ts k fields)) (append_assoc tails one.tails more.tails) n
    ∙ sym (append_assoc one.octets more.octets _)

-- a head, names, and fields after them
written_after_head : (head : List ℕ) (texts : List (List ℕ)) (fields : List Field)
    → (let w = write_names [] (length head) texts in
    written [] 0 (fixed head ∷ (map name texts ++ fields)) ≡ head ++ (w.octets ++ written w.tails (length head + length w.octets) fields))
unfolding written
written_after_head head texts fields =
    ap (λ (s : List ℕ). head ++ s) (ap (λ (n : ℕ). written [] n (map name texts ++ fields)) (zero-add (length head)) ∙ names-row texts [] (length head) fields)

last_fields_written : (site : Option (List ℕ)) (names : Writing) (at : ℕ) → written names.tails at (last_fields site) ≡ ex_last site names at
unfolding written
last_fields_written None names at = append-nil (ending ex_version)
last_fields_written (Some text) names at = ap (λ (s : List ℕ). (write_name names.tails at text).octets ++ s) (append-nil (ending ex_version_with_next_site))

by_fields : (form : Form) (r : Reply) → octets_in form r ≡ written [] 0 (fields_of form r)
unfolding written response_octets ex_octets
by_fields Nt40 r = sym (append-nil (nt40_octets r))
by_fields Response r =
    let names : Writing = write_names [] (length (response_head r)) (response_names r) in
    let end : List ℕ = r.ipv4 ++ u32 r.flags ++ ending response_version in
    let whole : response_head r ++ names.octets ++ r.ipv4 ++ u32 r.flags ++ ending response_version ≡ response_head r ++ (names.octets ++ (end ++ [])) = simp (append_assoc, append-nil) in
    whole ∙ sym (written_after_head (response_head r) (response_names r) (fixed end ∷ []))
by_fields Ex r =
    let head : List ℕ = ex_head r in
    let names : Writing = write_names [] (length head) (ex_names r) in
    let address : List ℕ = address_if r.with_address_lem r.ipv4 in
    let last : List ℕ = ex_last r.next_site_lem names (length (head ++ names.octets ++ address)) in
    let n : length head + length names.octets + length address ≡ length (head ++ names.octets ++ address) = simp length-append in
    let whole : head ++ names.octets ++ address ++ last ≡ head ++ (names.octets ++ (address ++ last)) = simp append_assoc in
    whole
    ∙ sym (written_after_head head (ex_names r) (fixed address ∷ last_fields r.next_site_lem)
    ∙ ap (λ (s : List ℕ). head ++ (names.octets ++ (address ++ s)))
    (ap (λ (k : ℕ). written names.tails k (last_fields r.next_site_lem)) n ∙ last_fields_written r.next_site_lem names (length (head ++ names.octets ++ address))))

-- ---- texts that are names

names_plain : (texts : List (List ℕ)) → all is_name texts ≡ true → Every (λ text. Plain (labels text)) texts
names_plain texts e =
    every_all is_name (λ text. Plain (labels text))
    (λ text q. labels_plain text (every_all (sized 1 63) (λ l. (1 ≤ length l) × (length l ≤ 63)) (λ l h. (within_low 1 63 (length l) h, within-high 1 63 (length l) h)) (labels text) q))
    texts e

plain_names : (texts : List (List ℕ)) → Every (λ text. Plain (labels text)) texts → all is_name texts ≡ true
plain_names texts h =
    all_every is_name texts
    (every_weaken (λ text. Plain (labels text)) (λ text. is_name text ≡ true)
    (λ text p. all_every (sized 1 63) (labels text)
    (every_weaken (λ l. (1 ≤ length l) × (length l ≤ 63) × Dotless l) (λ l. sized 1 63 l ≡ true) (λ l q. rw (le-leb 1 (length l) q.0, le-leb (length l) 63 q.1)) (labels text) p))
    texts h)

pub document_reply_compared : DocumentReplyCompared
document_reply_compared form r room = rw (by_fields form r) (fields_compared (fields_of form r) [] 0 tt (omega (arith, ap length (by_fields form r))))

pub none_shorter : NoneShorter
none_shorter form r names other places w = rw (by_fields form r) (least [] 0 tt tt (names_plain (texts_of (fields_of form r)) names) w)

pub all-read-back : AllReadBack
all-read-back form r names other places w = says_names (names_plain (texts_of (fields_of form r)) names) w

-- ---- every answer's texts are names, and its reply is short

last_plain : (site : Option (List ℕ)) → ((text : List ℕ) → site ≡ Some text → Writable 63 text) → Every (λ text. Plain (labels text)) (texts_of (last_fields site))
last_plain None h = tt
last_plain (Some text) h = ((h text refl).plain, tt)

texts_plain : (form : Form) (v : ℕ) (r : Reply) → Sound form v r → Every (λ text. Plain (labels text)) (texts_of (fields_of form r))
texts_plain Nt40 v r k = tt
texts_plain Response v r k = response_plain v r k
texts_plain Ex v r k =
    every_append (λ text. Plain (labels text)) (ex_names r) (texts_of (last_fields r.next_site_lem)) (ex_plain v r k) (last_plain r.next_site_lem (λ text e. (k.next_site_lem text e).0))

shortest : (form : Form) (v : ℕ) (r : Reply) → Sound form v r → Shortest form v r (octets_in form r)
shortest form v r k =
    let names : AreNames form r = plain_names (texts_of (fields_of form r)) (texts_plain form v r k) in
    let one = document_reply_compared form r (omega (arith, sound_length form v r k)) in
    record { places = one.0; compared = one.1; least = none_shorter form r names; read_back = all-read-back form r names }

pub shortest_answer_over : ShortestAnswerOver
shortest_answer_over = every_sound Shortest shortest

pub shortest_call : ShortestCall
shortest_call = every_reply Shortest (λ form v r s len. Shortest form v r s) (every_answer (ReplyIs Shortest) shortest_answer_over) (λ form v r s h. h)

-- ---- the longer ones: a writer that points only from a name's first label

-- says the names `a`, `b.a` and `b.a`, and texts of no octets
abbrev sample : Reply
sample =
    record {
      opcode = 0;
      flags = 0;
      guid = replicate 16 0;
      forest = 0x61 ∷ [];
      dns = 0x62 ∷ 0x2E ∷ 0x61 ∷ [];
      host = 0x62 ∷ 0x2E ∷ 0x61 ∷ [];
      netbios = [];
      server = [];
      user = [];
      own_site_lem = [];
      client_site_lem = [];
      ipv4 = replicate 4 0;
      with_address_lem = false;
      next_site_lem = None;
    }

longer-response : Longer Response
unfolding all parts labels joined response_octets response_head opening text16 utf16 flat_map points_from ending write_names write_name write_labels first same pointer_to literal_label big_octets little_octets
longer-response = (
  sample,
  refl,
  _,
  _,
  field
      (named (label ended) (named (label (label ended)) (named (pointer {t = record { offset = 43; text = sample.dns }} (Memᴰ.tail (Memᴰ.head refl)) refl (omega arith)) (field done)))),
  omega arith,
)

longer-ex : Longer Ex
unfolding all parts labels joined ex_octets ex_head ending write_names write_name write_labels first same pointer_to literal_label big_octets little_octets
longer-ex = (
  sample,
  refl,
  _,
  _,
  field
      (named (label ended)
      (named (label (label ended))
      (named (pointer {t = record { offset = 27; text = sample.dns }} (Memᴰ.tail (Memᴰ.head refl)) refl (omega arith))
      (named ended (named ended (named ended (named ended (named ended (field (field done)))))))))),
  omega arith,
)

pub some-longer : SomeLonger
some-longer = (longer-response, longer-ex)
