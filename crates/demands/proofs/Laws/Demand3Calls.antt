-- Demand 3 is proved: the reading has the names that the definition gives, in their places.
use Rattle.std.proofs.Common.{Ok, Option, None, Some, option_map}
use mathlib.Core.Path.{◌≡◌, refl, sym, ap, ◌∙◌, subst}
use mathlib.Core.List.{List, [], ◌∷◌}
use Prim.Native.Nat.{ℕ, zero, suc, ◌<◌}
use native.Mathlib.Omega.{arith}
use lib.ListN.{length, get_or, get_or-map}
use Rattle.answers.specs.declared.Form.{Form}
use Rattle.names.specs.Walk.{WalkedName}
use Rattle.octets.proofs.Laws.Lists.{every_at}
use Rattle.reader.specs.declared.field.Read.{Read}
use Rattle.reader.specs.Name.{read_name}
use Rattle.reader.specs.Reader.{NameRead, joined_name, Fields, nt40, response, ex, read_in}
use Rattle.reader_forms.specs.Reading.{no_name, name_in, fields_as, reading_as}
use Rattle.reader_forms.specs.Settled.{names_read, last_read}
use Rattle.reader_forms.proofs.Laws.Names.{SiteHas, AllHave, all_have}
use Rattle.reader_names.specs.declared.NameAt.{NameAt}
use Rattle.reader_names.specs.Name.{name_as}
use Rattle.reader_text.specs.declared.NameText.{NameText}
use Rattle.reader_text.specs.Text.{name_text_lem, name_text_as, text_given, NameTextPromise}
use Rattle.reader_text.proofs.Laws.Text.{given-text}
use Rattle.reply.specs.Reply.{Reply, octets_in}
use Rattle.demands.specs.Demand3.{names_of, last_of, NameReported, WhereWritten, ReadsWalked, Demand3Over, Demand3Calls}
use Rattle.demands.specs.Derivation.{ReplyIs}
use Rattle.demands.specs.Places.{name_start, last_start}
use Rattle.demands.proofs.Laws.Demand3.{names_in, last_in, NameGiven, NamesWalked, names-walked}
use Rattle.demands.proofs.Laws.Derivation.{every_answer, every_reply}
use Rattle.demands.proofs.Laws.Only.{Any, only-good}
use Rattle.demands.proofs.Laws.Reading.{form_read, reading_only}
use Rattle.demands.proofs.Laws.Sound.{every_sound}

-- names at the first n places, each as it is known by its place
abbrev first_places : (ℕ → NameAt) → ℕ → List NameAt
first_places name zero = []
first_places name (suc n) = name 0 ∷ first_places (λ k. name (suc k)) n

at_place : (name : ℕ → NameAt) (other : NameAt) (n k : ℕ) → k < n → get_or (first_places name n) k other ≡ name k
at_place name other zero k h = absurd (omega arith)
at_place name other (suc n) zero h = refl
at_place name other (suc n) (suc k) h = at_place (λ i. name (suc i)) other n k (omega arith)

-- the fields of a form have as many names, each at its place
names-many : (f : Fields) (r : Reply) → length (names_read (fields_as f)) ≡ length (names_of (form_read f) r)
names-many (nt40 f) r = refl
names-many (response f) r = refl
names-many (ex f) r = refl

pub names_there : (f : Fields) (k : ℕ) → k < length (names_read (fields_as f)) → get_or (names_read (fields_as f)) k (name_as no_name) ≡ name_as (get_or (names_in f) k no_name)
names_there (nt40 f) k h = absurd (omega arith)
names_there (response f) k h = at_place (name_in f.names) (name_as no_name) 3 k h ∙ get_or-map name_as f.names k no_name
names_there (ex f) k h = at_place (name_in f.names) (name_as no_name) 8 k h ∙ get_or-map name_as f.names k no_name

pub last_there : (f : Fields) → last_read (fields_as f) ≡ option_map name_as (last_in f)
last_there (nt40 f) = refl
last_there (response f) = refl
last_there (ex f) = refl

module _ (s : List ℕ) where
  -- the second call gives a name's text from its first offset
  abbrev pub Spelt : NameRead → Type 0
  Spelt n = name_text_lem s n.start ≡ Ok n.text

  pub name_spelt : (at : ℕ) (f : Read WalkedName) → read_name s at ≡ Ok f → Spelt (joined_name at f.value)
  unfolding name_text_lem
  name_spelt at f e = rw e

  pub spelt_given : (start : ℕ) (text : List ℕ) → name_text_lem s start ≡ Ok text → (t : NameText) → NameTextPromise s start t → t ≡ name_text_as (Ok text)
  spelt_given start text e t p = p.same ∙ ap name_text_as e

  names_spelt : (f : Fields) → AllHave s Spelt name_spelt f → (k : ℕ) → k < length (names_read (fields_as f)) → Spelt (get_or (names_in f) k no_name)
  names_spelt (nt40 f) a k h = absurd (omega arith)
  names_spelt (response f) a k h = every_at Spelt f.names k no_name a.1 (omega arith)
  names_spelt (ex f) a k h = every_at Spelt f.names k no_name a.1 (omega arith)

  last_spelt : (f : Fields) → AllHave s Spelt name_spelt f → SiteHas s Spelt name_spelt (last_in f)
  last_spelt (nt40 f) a = tt
  last_spelt (response f) a = tt
  last_spelt (ex f) a = a.2

  -- a name that the definition gives is one that the reading reports
  reported : (start k : ℕ) (text : List ℕ) (n : NameRead) → NameGiven s start k text n → Spelt n → NameReported s start k text (name_as n)
  reported start k text n g spelt =
      let here : name_text_lem s start ≡ Ok text = subst (λ (x : ℕ). name_text_lem s x ≡ Ok text) g.placed (spelt ∙ ap Ok g.told) in
      record {
        walked = g.walked;
        placed = g.placed;
        sized = ap length g.told;
        counted = g.counted;
        told = λ t p. ap text_given (spelt_given start text here t p) ∙ given-text (Ok text);
      }

  last_reported : (start : ℕ) (site : Option (List ℕ)) (o : Option NameRead) → WhereWritten (NameGiven s start 8) site o → SiteHas s Spelt name_spelt o → WhereWritten (NameReported s start 8) site (option_map name_as o)
  last_reported start None None w spelt = tt
  last_reported start None (Some n) w spelt = w
  last_reported start (Some text) None w spelt = w
  last_reported start (Some text) (Some n) w spelt = reported start 8 text n w spelt

reading_walked : (form : Form) (v : ℕ) (r : Reply) (s : List ℕ) → NamesWalked form v r s → ReadsWalked form v r s (length s)
reading_walked form v r s w given promise =
    let f : Fields = w.fields in
    let formed : form_read f ≡ form = only-good Any (λ f. form_read f ≡ form) (read_in form v s) f (reading_only Any tt tt tt tt tt form v s) w.accepted in
    let spelt = all_have s (Spelt s) (name_spelt s) form v f w.accepted in
    let many : length (names_read (fields_as f)) ≡ length (names_of form r) = subst (λ (x : Form). length (names_read (fields_as f)) ≡ length (names_of x r)) formed (names-many f r) in
    record {
      read = fields_as f;
      accepted = promise.same ∙ ap (reading_as s) w.accepted;
      many = many;
      names =
          λ k h.
          let there : k < length (names_read (fields_as f)) = subst (λ (x : ℕ). k < x) (sym many) h in
          rw (names_there f k there) (reported s (name_start form s k) k _ _ (w.names k h) (names_spelt s f spelt k there));
      last = rw (last_there f) (last_reported s (last_start v s) (last_of form r) (last_in f) w.last (last_spelt s f spelt));
    }

-- a reply whose octets are read whole
abbrev ReadsAll : Form → ℕ → Reply → List ℕ → Type 0
ReadsAll form v r s = ReadsWalked form v r s (length s)

pub demand_3_over : Demand3Over
demand_3_over = every_sound ReadsAll (λ form v r k. reading_walked form v r (octets_in form r) (names-walked form v r k))

pub demand_3_calls : Demand3Calls
demand_3_calls = every_reply ReadsAll ReadsWalked (every_answer (ReplyIs ReadsAll) demand_3_over) (λ form v r s h. h)
