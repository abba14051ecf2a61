-- Laws of the order of account names: which are the same, which come before, how a pair is read from its ranks on, and what of both is alike.
use Rattle.std.proofs.Common.{Option, None, Some, is_some}
use mathlib.Core.Path.{◌≡◌, refl, sym, ap, ap₂, ◌∙◌, subst}
use mathlib.Core.Bool.{Bool, true, false, ◌&&◌, and-false}
use mathlib.Core.List.{List, [], ◌∷◌}
use Prim.Native.Nat.{ℕ, zero, suc, ◌+◌, ◌≤◌, ◌<◌}
use native.Mathlib.Numerals.{add-one}
use native.Mathlib.Omega.{arith}
use lib.ListN.{length, get_or, drop, drop_of_length-le}
use lib.Dec.{eqb, leb, ltb}
use borrow.Author.Tests.{ne_eqb, le-leb, lt-leb, leb-true, lt-ltb, ltb-true, ltb-false, eqb-false}
use Rattle.octets.specs.Fold.{fold_point, fold_points}
use Rattle.octets.specs.Lists.{holds}
use Rattle.octets.specs.Text.{same, lower}
use Rattle.octets.proofs.Laws.Lists.{none_not_some, true_not_false}
use Rattle.octets.proofs.Laws.Text.{same_sym, same_equal}
use Rattle.unicode_text.specs.Utf8.{points, is_utf8}
use Rattle.unicode_text.specs.declared.utf8.PointAt.TheVariants.{Bad, Point}
use Rattle.unicode_text.specs.Internal.Point.{point_limit, readable_from, PointRead, CodeRead, size_of}
use Rattle.unicode_text.proofs.Laws.Point.{lead-one, end-points, some_more, readable-points}
use Rattle.std.specs.Cmp.{unsigned_tied}
use Rattle.std.specs.declared.cmp.Ordering.{Ordering}
use Rattle.std.specs.declared.cmp.Ordering.TheVariants.{Less, Equal, Greater}
use Rattle.std.specs.Ordering.{is_eq, is_ne, nat_cmp, ordering_then}
use Rattle.account_names.specs.AccountName.{folded_text, same_account_name}
use Rattle.account_names.specs.Internal.Ordering.{compare}
use Rattle.account_names.specs.Internal.NameOrder.{name_key, equal_if, compare_names, RankRead, GoesOn, Alike}
use Rattle.folding.proofs.Laws.Fold.{fold_ascii}
use Rattle.account_names.proofs.Laws.Ordering.{less_number, greater_number, sucs_compared, compare_equal, compare_passes, first_equal}

equal_if_not : (o : Ordering) → is_eq (equal_if false o) ≡ false
equal_if_not Less = refl
equal_if_not Equal = refl
equal_if_not Greater = refl

equal_if_so : (o : Ordering) → equal_if true o ≡ o
equal_if_so Less = refl
equal_if_so Equal = refl
equal_if_so Greater = refl

less_if : (b : Bool) (o : Ordering) → equal_if b o ≡ Less → o ≡ Less
less_if b Less e = refl
less_if true Equal e = e
less_if false Equal e = absurd (let z : ◌≡◌ {A = ℕ} 0 1 = cc in omega arith)
less_if b Greater e = absurd (let z : ◌≡◌ {A = ℕ} 0 1 = cc in omega arith)

not_equal : (o : Ordering) → is_eq o ≡ false → is_ne o ≡ true
not_equal Less e = refl
not_equal Equal e = absurd (true_not_false e)
not_equal Greater e = refl

-- what an order that is not equal decides
decided : (o r : Ordering) (b : Bool) → is_ne o ≡ true → o ≡ equal_if b (ordering_then o r)
decided Less r b e = refl
decided Equal r b e = absurd (true_not_false (sym e))
decided Greater r b e = refl

-- two names compare as equal exactly where they are the same
module _ (a b : List ℕ) where
  pub names_equal : is_eq (compare_names a b) ≡ same_account_name a b
  unfolding compare_names same_account_name folded_text is_utf8 name_key
  names_equal = go (points a) refl (points b) refl
    where
      go : (p : Option (List ℕ)) → points a ≡ p → (q : Option (List ℕ)) → points b ≡ q
          → is_eq (compare_names a b) ≡ same_account_name a b
      go None e q f = rw e (equal_if_not (compare (name_key a) (name_key b)))
      go (Some cs) e None f = rw (e, f) (equal_if_not (compare (name_key a) (name_key b)))
      go (Some cs) e (Some ds) f =
          rw (e, f, readable-points a cs e, readable-points b ds f) (ap is_eq (equal_if_so (compare (fold_points cs) (fold_points ds))) ∙ compare_equal (fold_points cs) (fold_points ds))

  names_less : compare_names a b ≡ Less → compare (name_key a) (name_key b) ≡ Less
  unfolding compare_names
  names_less e = less_if (is_utf8 a && is_utf8 b) (compare (name_key a) (name_key b)) e

  keys_less : compare (name_key a) (name_key b) ≡ Less → compare_names a b ≡ Less
  unfolding compare_names
  keys_less e = rw e

  keys_greater : compare (name_key a) (name_key b) ≡ Greater → compare_names a b ≡ Greater
  unfolding compare_names
  keys_greater e = rw e

-- names behind a number: before is passed on
module _ (a b : List ℕ) where
  then_keys : (o : Ordering) → ordering_then o (compare_names a b) ≡ Less → ordering_then o (compare (name_key a) (name_key b)) ≡ Less
  then_keys Less e = refl
  then_keys Equal e = names_less a b e
  then_keys Greater e = e

  then_names : (o : Ordering) → ordering_then o (compare (name_key a) (name_key b)) ≡ Less → ordering_then o (compare_names a b) ≡ Less
  then_names Less e = refl
  then_names Equal e = keys_less a b e
  then_names Greater e = e

pub numbered_passes : (x y z : ℕ) (a b c : List ℕ)
    → ordering_then (nat_cmp x y) (compare_names a b) ≡ Less → ordering_then (nat_cmp y z) (compare_names b c) ≡ Less → ordering_then (nat_cmp x z) (compare_names a c) ≡ Less
numbered_passes x y z a b c e f =
    then_names a c (nat_cmp x z) (compare_passes (x ∷ name_key a) (y ∷ name_key b) (z ∷ name_key c) (then_keys a b (nat_cmp x y) e) (then_keys b c (nat_cmp y z) f))

-- as far as two pairs of names have keys and UTF-8 alike
names_alike : (a b s t : List ℕ) → compare (name_key s) (name_key t) ≡ compare (name_key a) (name_key b) → is_utf8 a ≡ is_utf8 s → is_utf8 b ≡ is_utf8 t → compare_names s t ≡ compare_names a b
unfolding compare_names
names_alike a b s t e f g = ap₂ equal_if (ap₂ ◌&&◌ (sym f) (sym g)) e

-- a name from its rank on: as the code reads it
module _ (s : List ℕ) (at next : ℕ) where
  ranked_point : (c r : ℕ) → PointRead s at (Point c next) → r ≡ fold_point c → RankRead s at (r + 1) next
  unfolding name_key fold_points is_utf8
  ranked_point c r p e =
      subst (λ (n : ℕ). RankRead s at n next) (sym (add-one r)) (
        p.0,
        p.1,
        ap fold_points p.4 ∙ ap (λ (n : ℕ). n ∷ name_key (drop next s)) (sym e),
        ap is_some p.3 ∙ some_more c (points (drop next s)),
      )

  pub ranked_end : length s ≤ at → RankRead s at 0 next
  unfolding name_key fold_points is_utf8 readable_from
  ranked_end h = (rw (drop_of_length-le s h), ap is_some (end-points s at h) ∙ sym (le-leb (length s) at h))

  ranked_bad : PointRead s at Bad → RankRead s at 0 next
  unfolding name_key fold_points is_utf8
  ranked_bad p = (ap fold_points p.1, ap is_some p.0 ∙ go (leb (length s) at) refl)
    where
      go : (b : Bool) → leb (length s) at ≡ b → false ≡ leb (length s) at
      go true e = absurd (none_not_some [] (sym p.0 ∙ end-points s at (leb-true (length s) at e)))
      go false e = sym e

-- two names by their ranks
module _ (a b : List ℕ) (i j next after : ℕ) where
  -- where the ranks differ, so do the names
  pub rank_decides : (x y : ℕ) → RankRead a i x next → RankRead b j y after → is_ne (nat_cmp x y) ≡ true → nat_cmp x y ≡ compare_names (drop i a) (drop j b)
  unfolding compare_names
  rank_decides zero zero p q e = absurd (true_not_false (sym e))
  rank_decides zero (suc d) p q e = rw (p.0, q.2) (less_number zero (suc d) (omega arith))
  rank_decides (suc c) zero p q e = rw (p.2, q.0) (greater_number (suc c) zero (omega arith))
  rank_decides (suc c) (suc d) p q e =
      let s = sucs_compared c d in
      rw (p.2, q.2, s) (decided (nat_cmp c d) (compare (name_key (drop next a)) (name_key (drop after b))) (is_utf8 (drop i a) && is_utf8 (drop j b)) (ap is_ne (sym s) ∙ e))

  pub rank_next : (x : ℕ) → RankRead a i x next → RankRead b j x after → (x ≡ 0 → ⊥)
      → (i < next) × (j < after) × GoesOn a i next b j after
  rank_next zero p q n = absurd (n refl)
  rank_next (suc c) p q n = (
    p.0,
    q.0,
    (p.1, q.1, names_alike (drop i a) (drop j b) (drop next a) (drop after b) (first_equal c c _ (omega arith) (omega arith) ∙ sym (ap₂ compare p.2 q.2)) p.3 q.3),
  )

-- neither can be read on
module _ (a b : List ℕ) (i j : ℕ) (p : RankRead a i 0 i) (q : RankRead b j 0 j) where
  pub ends-left : i < length a → Greater ≡ compare_names (drop i a) (drop j b)
  unfolding compare_names
  ends-left h = rw (p.0, q.0, p.1, lt-leb (length a) i h)

  pub ends-right : j < length b → Greater ≡ compare_names (drop i a) (drop j b)
  unfolding compare_names
  ends-right h = rw (p.0, q.0, q.1, lt-leb (length b) j h, and-false (is_utf8 (drop i a)))

  pub ends_both : length a ≤ i → length b ≤ j → Equal ≡ compare_names (drop i a) (drop j b)
  unfolding compare_names
  ends_both h k = rw (p.0, q.0, p.1, q.1, le-leb (length a) i h, le-leb (length b) j k)

-- a code point of each that fold alike, of one size
pub points_alike : (a b : List ℕ) (i j size c d : ℕ) → PointRead a i (Point c (i + size)) → PointRead b j (Point d (j + size)) → fold_point c ≡ fold_point d → Alike a i b j size
points_alike a b i j size c d p q e h =
    let left = ranked_point a i (i + size) c (fold_point c) p refl in
    let right = ranked_point b j (j + size) d (fold_point c) q e in
    (rank_next a b i j (i + size) (j + size) (fold_point c + 1) left right (λ (z : fold_point c + 1 ≡ 0). omega (arith, z))).2

abbrev AsciiAt : List ℕ → ℕ → Type 0
AsciiAt s at = (at < length s) × (get_or s at 0 < 0x80)

-- two ASCII octets, by what they fold to
module _ (a b : List ℕ) (i j : ℕ) (p : AsciiAt a i) (q : AsciiAt b j) where
  pub letters_alike : lower (get_or a i 0) ≡ lower (get_or b j 0) → Alike a i b j 1
  letters_alike e =
      points_alike a b i j 1 (get_or a i 0) (get_or b j 0) (lead-one a i (get_or a i 0) p.0 refl p.1) (lead-one b j (get_or b j 0) q.0 refl q.1) (fold_ascii (get_or a i 0) p.1 ∙ e ∙ sym (fold_ascii (get_or b j 0) q.1))

  abbrev x : ℕ
  x = lower (get_or a i 0)

  abbrev y : ℕ
  y = lower (get_or b j 0)

  left : RankRead a i (x + 1) (i + 1)
  left = ranked_point a i (i + 1) (get_or a i 0) x (lead-one a i (get_or a i 0) p.0 refl p.1) (sym (fold_ascii (get_or a i 0) p.1))

  right : RankRead b j (y + 1) (j + 1)
  right = ranked_point b j (j + 1) (get_or b j 0) y (lead-one b j (get_or b j 0) q.0 refl q.1) (sym (fold_ascii (get_or b j 0) q.1))

  pub letters_differ : eqb x y ≡ false → is_eq (compare_names (drop i a) (drop j b)) ≡ false
  letters_differ e =
      let apart : is_eq (nat_cmp (x + 1) (y + 1)) ≡ false = unsigned_tied (x + 1) (y + 1) ∙ ne_eqb (x + 1) (y + 1) (λ q. eqb-false x y e (omega (arith, q))) in
      sym (ap is_eq (rank_decides a b i j (i + 1) (j + 1) (x + 1) (y + 1) left right (not_equal (nat_cmp (x + 1) (y + 1)) apart))) ∙ apart

-- a code point that was decoded, ranked
pub ranked_code : (s : List ℕ) (at size code r : ℕ) → CodeRead s at size code → (code < point_limit → r ≡ fold_point code + 1) × (point_limit ≤ code → r ≡ 0) → RankRead s at r (at + size)
ranked_code s at size code r p q = go (ltb code point_limit) refl
  where
    go : (b : Bool) → ltb code point_limit ≡ b → RankRead s at r (at + size)
    go true e =
        let h : code < point_limit = ltb-true code point_limit e in
        subst (λ (n : ℕ). RankRead s at n (at + size)) (sym (q.0 h)) (ranked_point s at (at + size) code (fold_point code) (p.0 h) refl)
    go false e =
        let h : point_limit ≤ code = ltb-false code point_limit e in
        subst (λ (n : ℕ). RankRead s at n (at + size)) (sym (q.1 h)) (ranked_bad s at (at + size) (p.1 h))

-- an octet of ASCII, ranked as the code point that it is
pub ranked_ascii : (s : List ℕ) (at r : ℕ) → AsciiAt s at → r ≡ fold_point (get_or s at 0) + 1 → RankRead s at r (at + size_of (get_or s at 0))
ranked_ascii s at r p e =
    let x = get_or s at 0 in
    rw (lt-ltb x 0x80 p.1) (subst (λ (n : ℕ). RankRead s at n (at + 1)) (sym e) (ranked_point s at (at + 1) x (fold_point x) (lead-one s at x p.0 refl p.1) refl))

-- a character that both have
pub decoded_alike : (a b : List ℕ) (i j size code : ℕ) → CodeRead a i size code → CodeRead b j size code → code < point_limit → Alike a i b j size
decoded_alike a b i j size code p q h = points_alike a b i j size code code (p.0 h) (q.0 h) refl

-- the same name is passed on
module _ (a b : List ℕ) where
  pub same-name_sym : same_account_name a b ≡ same_account_name b a
  unfolding same_account_name
  same-name_sym = go (folded_text a) (folded_text b)
    where
      go : (p q : Option (List ℕ)) → holds (λ s. holds (same s) q) p ≡ holds (λ s. holds (same s) p) q
      go None None = refl
      go None (Some t) = refl
      go (Some s) None = refl
      go (Some s) (Some t) = same_sym s t

  pub same-name-left : (c : List ℕ) → same_account_name a b ≡ true → same_account_name a c ≡ same_account_name b c
  unfolding same_account_name
  same-name-left c e = go (folded_text a) (folded_text b) e
    where
      go : (p q : Option (List ℕ)) → holds (λ s. holds (same s) q) p ≡ true → holds (λ s. holds (same s) (folded_text c)) p ≡ holds (λ s. holds (same s) (folded_text c)) q
      go None q f = absurd (true_not_false (sym f))
      go (Some s) None f = absurd (true_not_false (sym f))
      go (Some s) (Some t) f = ap (λ (u : List ℕ). holds (same u) (folded_text c)) (same_equal s t f)
