-- What the reader accepts as a name is the walk's, so every name of a reading is.
use Rattle.std.proofs.Common.{Ok, Err, Option, None, Some, option_map}
use mathlib.Core.Path.{◌≡◌, refl, sym, ap, ◌∙◌, subst}
use mathlib.Core.List.{List}
use Prim.Native.Nat.{ℕ, ◌<◌}
use native.Mathlib.Omega.{arith}
use lib.ListN.{length, get_or}
use Rattle.answers.specs.declared.Form.{Form}
use Rattle.answers.specs.Try.{Try}
use Rattle.answers.proofs.Laws.Try.{good-same, refused_not_good}
use Rattle.names.specs.Walk.{WalkedName}
use Rattle.octets.specs.Label.{joined}
use Rattle.octets.proofs.Laws.Lists.{every_at, none_not_some}
use Rattle.reader.specs.declared.field.Read.{Read}
use Rattle.reader.specs.Name.{read_name}
use Rattle.reader.specs.Reader as reader
use Rattle.reader.specs.Reader.{NameRead, joined_name, read_in}
use Rattle.reader.proofs.Laws.Name.{reader_walks, reader_accepts}
use Rattle.reader_forms.specs.declared.reading.Fields.{Fields}
use Rattle.reader_forms.specs.declared.reading.Reading.{Reading}
use Rattle.reader_forms.specs.Reading.{no_name, fields_as, reading_as}
use Rattle.reader_forms.specs.Settled.{names_read, last_read}
use Rattle.reader_forms.proofs.Laws.Names.{SiteHas, AllHave, all_have}
use Rattle.reader_names.specs.declared.NameAt.{NameAt}
use Rattle.reader_names.specs.Name.{name_as}
use Rattle.reader_text.specs.declared.NameText.{NameText}
use Rattle.reader_text.specs.Text.{name_text_as, text_given}
use Rattle.reader_text.proofs.Laws.Text.{given-text}
use Rattle.demands.specs.Demand3.{NameIsWalk, ReadingWalks, WalkTold}
use Rattle.demands.proofs.Laws.Demand3.{names_in, last_in}
use Rattle.demands.proofs.Laws.Demand3Calls.{names_there, last_there, name_spelt, spelt_given}

module _ (s : List ℕ) where
  -- a name that the definition gives, as the call gives it
  abbrev IsWalk : NameRead → Type 0
  IsWalk n = NameIsWalk s (name_as n)

  name_is_walk : (at : ℕ) (f : Read WalkedName) → read_name s at ≡ Ok f → IsWalk (joined_name at f.value)
  name_is_walk at f e =
      record {
        name = f.value;
        found = reader_walks s at f e;
        sized = refl;
        counted = refl;
        told =
            λ t p.
            let z : t ≡ name_text_as (Ok (joined f.value.labels)) = spelt_given s at (joined f.value.labels) (name_spelt s at f e) t p in
            (ap (λ (x : NameText). x.len) z, ap text_given z ∙ given-text (Ok (joined f.value.labels)));
      }

  names-walk : (f : reader.Fields) → AllHave s IsWalk name_is_walk f → (k : ℕ) → k < length (names_read (fields_as f)) → IsWalk (get_or (names_in f) k no_name)
  names-walk (reader.nt40 f) a k h = absurd (omega arith)
  names-walk (reader.response f) a k h = every_at IsWalk f.names k no_name a.1 (omega arith)
  names-walk (reader.ex f) a k h = every_at IsWalk f.names k no_name a.1 (omega arith)

  site_walks : (site : Option NameRead) → SiteHas s IsWalk name_is_walk site → (n : NameAt) → option_map name_as site ≡ Some n → NameIsWalk s n
  site_walks None a n e = absurd (none_not_some n e)
  site_walks (Some m) a n e = let z : name_as m ≡ n = cc in subst (NameIsWalk s) z a

  last_walks : (f : reader.Fields) → AllHave s IsWalk name_is_walk f → (n : NameAt) → option_map name_as (last_in f) ≡ Some n → NameIsWalk s n
  last_walks (reader.nt40 f) a n e = absurd (none_not_some n e)
  last_walks (reader.response f) a n e = absurd (none_not_some n e)
  last_walks (reader.ex f) a n e = site_walks f.next_site_lem a.2 n e

  walks : (form : Form) (v len : ℕ) (read : Fields) (t : Try reader.Fields) → read_in form v s ≡ t → reading_as s t ≡ Ok (record { length = len; fields = read })
      → ((k : ℕ) → k < length (names_read read) → NameIsWalk s (get_or (names_read read) k (name_as no_name))) × ((n : NameAt) → last_read read ≡ Some n → NameIsWalk s n)
  walks form v len read (Err r) e q = absurd (refused_not_good r _ q)
  walks form v len read (Ok f) e q =
      let z : fields_as f ≡ read = ap (λ (x : Reading). x.fields) (good-same q) in
      let a = all_have s IsWalk name_is_walk form v f e in
      subst (λ (x : Fields). ((k : ℕ) → k < length (names_read x) → NameIsWalk s (get_or (names_read x) k (name_as no_name))) × ((n : NameAt) → last_read x ≡ Some n → NameIsWalk s n)) z
      ((λ k h. rw (names_there f k h) (names-walk f a k h)), (λ n l. last_walks f a n (sym (last_there f) ∙ l)))

pub reading_walks : ReadingWalks
reading_walks s form v len read promise = walks s form v len read (read_in form v s) refl (sym promise.same)

pub walk-told : WalkTold
unfolding name_is_walk
walk-told s at c next ls t w room few p =
    (name_is_walk s at (record { value = record { labels = ls; pointers = c }; next = next }) (reader_accepts s at c next ls w room few)).told t p
