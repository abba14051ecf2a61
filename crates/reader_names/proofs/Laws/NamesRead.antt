-- Names read one after the other: those read so far, and those left, make the names that the reader defines.
use Rattle.std.proofs.Common.{Ok, Err}
use mathlib.Core.Path.{◌≡◌, refl, sym, ap, ◌∙◌}
use mathlib.Core.List.{List, [], ◌∷◌, ◌++◌, map, map-append, append-nil}
use Prim.Native.Nat.{ℕ, suc, ◌+◌, ◌-◌, ◌<◌, ◌≤◌}
use native.Mathlib.Numerals.{add-one}
use native.Mathlib.Omega.{arith}
use lib.ListN.{length, take, set, length-set}
use lib.Seq.{append_snoc, take-suc-set, take_all}
use Rattle.answers.specs.declared.Refusal.{Refusal}
use Rattle.answers.specs.Try.{Try, ◌>>=◌}
use Rattle.names.specs.Walk.{WalkedName}
use Rattle.reader.specs.declared.field.Read.{Read}
use Rattle.reader.specs.Name.{read_name}
use Rattle.reader.specs.Reader.{NameRead, joined_name, read_names}
use Rattle.reader_names.specs.declared.NameAt.{NameAt}
use Rattle.reader_names.specs.Name.{name_as}

-- names after those that were read before
abbrev resumed : List NameRead → Try (Read (List NameRead)) → Try (Read (List NameRead))
resumed given (Err r) = Err r
resumed given (Ok f) = Ok (record { value = given ++ f.value; next = f.next })

resumed_more : (given : List NameRead) (n : NameRead) (t : Try (Read (List NameRead)))
    → resumed given (t >>= λ rest. Ok (record { value = n ∷ rest.value; next = rest.next })) ≡ resumed (given ++ (n ∷ [])) t
resumed_more given n (Err r) = refl
resumed_more given n (Ok f) = ap (λ (x : List NameRead). Ok (record { value = x; next = f.next })) (sym (append_snoc given n f.value))

module _ (s : List ℕ) (start count : ℕ) where
  -- the reading goes on with the name at a place
  pub record NamesLeft (names : List NameAt) (next i : ℕ) : Type 0 where
    pub given : List NameRead
    pub within : i ≤ count
    pub room : length names ≡ count
    pub stand : take i names ≡ map name_as given
    pub left : resumed given (read_names (count - i) s next) ≡ read_names count s start

  pub names-start : (names : List NameAt) → length names ≡ count → NamesLeft names start 0
  names-start names room = record { given = []; within = omega arith; room = room; stand = refl; left = ap (λ (k : ℕ). resumed [] (read_names k s start)) none ∙ go (read_names count s start) }
    where
      none : count - 0 ≡ count
      none = omega arith

      go : (t : Try (Read (List NameRead))) → resumed [] t ≡ t
      go (Err r) = refl
      go (Ok f) = refl

  module _ {names : List NameAt} {next i : ℕ} (n : NamesLeft names next i) where
    -- one more name is to be read
    one_more : i < count → read_names (count - i) s next ≡ (read_name s next >>= λ f. read_names (count - (i + 1)) s f.next >>= λ rest. Ok (record { value = joined_name next f.value ∷ rest.value; next = rest.next }))
    unfolding read_names
    one_more h = let e : count - i ≡ suc (count - (i + 1)) = omega arith in rw e

    pub names-refused : i < count → (r : Refusal) → read_name s next ≡ Err r → read_names count s start ≡ Err r
    names-refused h r e =
        let step : read_names (count - i) s next ≡ Err r = rw (one_more h, e) in
        sym n.left ∙ ap (resumed n.given) step

    pub names_more : i < count → (w : WalkedName) (name : NameAt) (after : ℕ) → read_name s next ≡ Ok (record { value = w; next = after }) → name ≡ name_as (joined_name next w)
        → NamesLeft (set names i name) after (i + 1)
    names_more h w name after e q =
        let rest : Try (Read (List NameRead)) = read_names (count - (i + 1)) s after in
        let step : read_names (count - i) s next ≡ (rest >>= λ x. Ok (record { value = joined_name next w ∷ x.value; next = x.next })) = rw (one_more h, e) in
        record {
          given = n.given ++ (joined_name next w ∷ []);
          within = omega arith;
          room = simp length-set n.room;
          stand =
              rw (add-one, take-suc-set names i name (omega (arith, n.room)))
              (ap (λ (x : List NameAt). x ++ (name ∷ [])) n.stand ∙ ap (λ (x : NameAt). map name_as n.given ++ (x ∷ [])) q ∙ sym (map-append name_as n.given (joined_name next w ∷ [])));
          left = sym (resumed_more n.given (joined_name next w) rest) ∙ ap (resumed n.given) (sym step) ∙ n.left;
        }

    pub names-end : count ≤ i → (given : List NameRead) × (read_names count s start ≡ Ok (record { value = given; next = next })) × (names ≡ map name_as given)
    unfolding read_names
    names-end h =
        let e : i ≡ count = omega (arith, n.within) in
        let z : count - i ≡ 0 = omega arith in
        let l : resumed n.given (Ok (record { value = []; next = next })) ≡ read_names count s start = ap (λ (k : ℕ). resumed n.given (read_names k s next)) (sym z) ∙ n.left in (
          n.given,
          sym l ∙ ap (λ (x : List NameRead). Ok (record { value = x; next = next })) (append-nil n.given),
          sym (take_all i names (omega (arith, n.room))) ∙ n.stand,
        )
