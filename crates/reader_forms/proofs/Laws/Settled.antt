-- The two calls together give what document 01 says that reading gives: every name was read where it starts, and as many as the form has.
use Rattle.std.proofs.Common.{Ok, Err, Option, None, Some, option_map}
use mathlib.Core.Path.{◌≡◌, refl, sym, ap, ◌∙◌, subst}
use mathlib.Core.List.{List, [], ◌∷◌, map}
use Prim.Native.Nat.{ℕ, zero, suc, ◌+◌, ◌<◌}
use native.Mathlib.Omega.{arith}
use lib.ListN.{length, drop, get_or}
use lib.Seq.{drop-cons, drop-length}
use Rattle.answers.specs.declared.Form.{Form}
use Rattle.answers.specs.Try.{Try}
use Rattle.names.specs.Walk.{WalkedName}
use Rattle.names.proofs.Laws.Walk.{walk_inside, walk-found}
use Rattle.octets.proofs.Laws.Lists.{Every}
use Rattle.reader.specs.declared.field.Read.{Read}
use Rattle.reader.specs.Name.{read_name}
use Rattle.reader.specs.Reader as reader
use Rattle.reader.proofs.Laws.Name.{reader_walks}
use Rattle.reader.specs.Reader.{NameRead, joined_name, read_in}
use Rattle.reader_names.specs.Name.{name_as}
use Rattle.reader_text.specs.Text.{name_text_lem, text_octets, text_given}
use Rattle.reader_forms.specs.Reading.{no_name, fields_as, reading_as}
use Rattle.reader_forms.specs.Settled.{name_from, fields_from, read_from, ReadingSettled}
use Rattle.reader_forms.proofs.Laws.Names.{SiteHas, AllHave, all_have}

-- ---- a list as its elements one by one

abbrev spelled : {A : Type 0} → ℕ → ℕ → List A → A → List A
spelled zero j l d = []
spelled (suc n) j l d = get_or l j d ∷ spelled n (suc j) l d

spelled_rest : {A : Type 0} (n j : ℕ) (l : List A) (d : A) → j + n ≡ length l → spelled n j l d ≡ drop j l
spelled_rest zero j l d e = let z : length l ≡ j = omega arith in subst (λ (k : ℕ). [] ≡ drop k l) z (sym (drop-length l))
spelled_rest (suc n) j l d e = ap (λ (x : List _). get_or l j d ∷ x) (spelled_rest n (suc j) l d (omega arith)) ∙ sym (drop-cons l j d (omega arith))

-- ---- names

module _ (s : List ℕ) (text : ℕ → List ℕ) (gives : (at : ℕ) → at < length s → text at ≡ text_octets (name_text_lem s at)) where
  -- a name whose text the second call gives from its first offset
  abbrev Told : NameRead → Type 0
  Told n = text n.start ≡ n.text

  name-told : (at : ℕ) (f : Read WalkedName) → read_name s at ≡ Ok f → Told (joined_name at f.value)
  unfolding name_text_lem
  name-told at f e = gives at (walk_inside (walk-found s at f.value (reader_walks s at f e)).1) ∙ rw e

  -- a name is back with its text
  name_back : (n : NameRead) → Told n → name_from text (name_as n) ≡ n
  name_back n e = ap (λ (x : List ℕ). record { start = n.start; text = x; pointers = n.pointers }) e

  names-back : (names : List NameRead) → Every Told names → map (name_from text) (map name_as names) ≡ names
  names-back [] e = refl
  names-back (n ∷ names) e = ap (λ (x : NameRead). x ∷ map (name_from text) (map name_as names)) (name_back n e.0) ∙ ap (λ (x : List NameRead). n ∷ x) (names-back names e.1)

  -- as many names as a form has, place by place
  places-back : (count : ℕ) (names : List NameRead) → length names ≡ count → Every Told names → map (name_from text) (spelled count 0 (map name_as names) (name_as no_name)) ≡ names
  places-back count names e told = ap (map (name_from text)) (spelled_rest count 0 (map name_as names) (name_as no_name) (omega (arith, map-length names))) ∙ names-back names told
    where
      map-length : (xs : List NameRead) → length (map name_as xs) ≡ length xs
      map-length [] = refl
      map-length (x ∷ xs) = ap suc (map-length xs)

  site-back : (site : Option NameRead) → SiteHas s Told name-told site → option_map (name_from text) (option_map name_as site) ≡ site
  site-back None e = refl
  site-back (Some n) e = ap Some (name_back n e)

  -- ---- fields

  fields_back : (f : reader.Fields) → AllHave s Told name-told f → fields_from text (fields_as f) ≡ f
  fields_back (reader.nt40 f) t = refl
  fields_back (reader.response f) t = ap made (places-back 3 f.names t.0 t.1)
    where
      made : List NameRead → reader.Fields
      made names =
          reader.response
          (record {
            opcode = f.opcode;
            server = f.server;
            user = f.user;
            domain = f.domain;
            guid = f.guid;
            names = names;
            ipv4 = f.ipv4;
            flags = f.flags;
            version = f.version;
          })
  fields_back (reader.ex f) t =
      ap (λ (x : List NameRead). made x (option_map (name_from text) (option_map name_as f.next_site_lem))) (places-back 8 f.names t.0 t.1)
      ∙ ap (made f.names) (site-back f.next_site_lem t.2)
    where
      made : List NameRead → Option NameRead → reader.Fields
      made names site = reader.ex (record { opcode = f.opcode; flags = f.flags; guid = f.guid; names = names; ipv4 = f.ipv4; next_site_lem = site; version = f.version })

  reading_back : (form : Form) (v : ℕ) (t : Try reader.Fields) → read_in form v s ≡ t → read_from text (reading_as s t) ≡ t
  reading_back form v (Err r) e = refl
  reading_back form v (Ok f) e = ap Ok (fields_back f (all_have s Told name-told form v f e))

pub reading_settled : ReadingSettled
reading_settled s form v r texts promise gives =
    let text : ℕ → List ℕ = λ at. text_given (texts at) in
    (ap (read_from text) promise.same ∙ reading_back s text (λ at h. (gives at h).given) form v (read_in form v s) refl, promise.sized)
