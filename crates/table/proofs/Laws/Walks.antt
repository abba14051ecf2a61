-- What iterators find: `all` and `any` over a list, and the blocks or records that `chunks_exact` gives.
use mathlib.Core.Path.{◌≡◌, refl, sym, ap, ap₂, subst, ◌∙◌}
use mathlib.Core.Bool.{Bool, true, false, ◌&&◌, ◌||◌}
use mathlib.Core.List.{List, [], ◌∷◌, ◌++◌}
use Prim.Native.Nat.{ℕ, suc, ◌+◌, ◌/◌, ◌<◌}
use native.Mathlib.Nat.{div-eq_of_lt, add-div_left}
use native.Mathlib.Numerals.{add-one}
use native.Mathlib.Omega.{arith}
use lib.ListN.{length, take, drop, length-append}
use lib.Seq.{take-append_seam, drop-append_seam}
use denote.Param.Members.{Mut}
use denote.Ref.{Bor}
use Rattle.std.specs.declared.option.Option.{Option}
use Rattle.std.specs.declared.option.Option.TheVariants.{None, Some}
use Rattle.std.specs.Iterator.{YieldsThen}
use Rattle.std.specs.Fn.{Called}
use Rattle.std.specs.List.{FoldsTo, list_all, list_any}
use Rattle.std.specs.Option.{MatchOption}
use Rattle.std.specs.Slice.Iter.{chunks_exact_rest, chunks_exact_size, chunks_exact_steps}
use Rattle.std.proofs.lemmas.Iterator.{YieldsList}
use Rattle.std.proofs.lemmas.Iterator.Search.{all_from_yields_List, any_from_yields_List}
use Rattle.std.proofs.lemmas.Iterator.Splits.{YieldsList-from_shown_while}
use Rattle.octets.specs.Lists.{all, any, pieces}

module _ {A : Type 0} (p : A → Bool) where
  list-all : (s : List A) → list_all p s ≡ all p s
  unfolding all
  list-all [] = refl
  list-all (x ∷ s) = ap (λ b. p x && b) (list-all s)

  list-any : (s : List A) → list_any p s ≡ any p s
  unfolding any
  list-any [] = refl
  list-any (x ∷ s) = ap (λ b. p x || b) (list-any s)

-- an iterator's `all` and `any`, by what each call of the closure gives
module _ {S A B F : Type 0} {steps : S → Option A → S → Type 0} {v : A → B} {g : Mut F (A × Unit {0}) Bool} {s : S} {items : List B} (test : B → Bool) (u : S) (f : F) where
  pub all_found : (r : Bool)
      → (xs : List A) × (o : Option A) × (j : F) × YieldsThen steps s xs o u × FoldsTo (λ p x q. Called g p (x, tt) true q) f xs j × MatchOption o (r ≡ true) (λ x. (r ≡ false) × ((h : F) × Called g j (x, tt) false h))
      → YieldsList steps v s items → ((x : A) (b : Bool) (q : F) → Called g f (x, tt) b q → (q ≡ f) × (b ≡ test (v x))) → r ≡ all test items
  all_found r d e k = all_from_yields_List test u f r d e k ∙ list-all test items

  pub any_found : (r : Bool)
      → (xs : List A) × (o : Option A) × (j : F) × YieldsThen steps s xs o u × FoldsTo (λ p x q. Called g p (x, tt) false q) f xs j × MatchOption o (r ≡ false) (λ x. (r ≡ true) × ((h : F) × Called g j (x, tt) true h))
      → YieldsList steps v s items → ((x : A) (b : Bool) (q : F) → Called g f (x, tt) b q → (q ≡ f) × (b ≡ test (v x))) → r ≡ any test items
  any_found r d e k = any_from_yields_List test u f r d e k ∙ list-any test items

-- what `chunks_exact` gives: the pieces of a list, without a shorter one at its end
module _ {A : Type 0} (w : ℕ) (h : 0 < w) where
  whole_pieces : List A → List (List A)
  whole_pieces s = pieces (length s / w) w s

  no_piece : (s : List A) → length s < w → whole_pieces s ≡ []
  unfolding pieces whole_pieces
  no_piece s k = rw (div-eq_of_lt k)

  next_piece : (x rest : List A) → length x ≡ w → whole_pieces (x ++ rest) ≡ x ∷ whole_pieces rest
  unfolding pieces whole_pieces
  next_piece x rest e =
      let size : length (x ++ rest) ≡ w + length rest = omega (arith, length-append x rest) in
      let more : (w + length rest) / w ≡ length rest / w + 1 = add-div_left (length rest) h in
      let count : length (x ++ rest) / w ≡ suc (length rest / w) = ap (λ n. n / w) size ∙ more ∙ add-one (length rest / w) in
      let front : take w (x ++ rest) ≡ x = ap (λ n. take n (x ++ rest)) (sym e) ∙ take-append_seam x rest in
      let back : drop w (x ++ rest) ≡ rest = ap (λ n. drop n (x ++ rest)) (sym e) ∙ drop-append_seam x rest in
      ap (λ n. pieces n w (x ++ rest)) count ∙ ap₂ (λ a b. a ∷ pieces (length rest / w) w b) front back

  chunks : {s : _} → chunks_exact_size {T = A} s ≡ w → YieldsList chunks_exact_steps (λ x. x.now) s (whole_pieces (chunks_exact_rest s))
  chunks {s} e =
      YieldsList-from_shown_while chunks_exact_steps (λ x. x.now) (λ t. whole_pieces (chunks_exact_rest t)) (λ t. chunks_exact_size t ≡ w)
      (λ t u q k. ap length (no_piece (chunks_exact_rest t) (subst (λ n. length (chunks_exact_rest t) < n) q k.1.0)))
      (λ t x u q k. (k.0 ∙ q, ap whole_pieces k.1.0 ∙ next_piece x.now (chunks_exact_rest u) (k.1.1 ∙ q)))
      s e

  pub YieldsList-from_chunks_exact : {s : _} (xs : List A) → chunks_exact_rest {T = A} s ≡ xs → chunks_exact_size s ≡ w → YieldsList chunks_exact_steps (λ x. x.now) s (pieces (length xs / w) w xs)
  unfolding whole_pieces
  YieldsList-from_chunks_exact {s} xs e size = subst (λ t. YieldsList chunks_exact_steps (λ x. x.now) s (pieces (length t / w) w t)) e (chunks size)
