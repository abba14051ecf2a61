-- What two texts have in common at their ends decides for every tail of the one whether the other ends with it.
use mathlib.Core.Path.{◌≡◌, refl, sym, ap, ap₂, subst, ◌∙◌}
use mathlib.Core.Bool.{Bool, true, false, ◌&&◌}
use mathlib.Core.List.{List, ◌∷◌, reverse}
use Prim.Native.Nat.{ℕ, zero, suc, ◌+◌, ◌-◌, ◌≤◌, ◌<◌}
use native.Mathlib.Omega.{arith}
use borrow.Author.Tests.{lt-leb, leb-true, leb-false, eqb-true, eqb-false}
use lib.Dec.{leb, ltb}
use lib.ListN.{length, get_or, drop, length-drop, drop_of_length-le}
use lib.Seq.{drop-cons, drop-drop, get_or-drop}
use Rattle.std.proofs.Common.{nat_eq, zip, take_while, min}
use Rattle.std.specs.List.{prefix_len}
use Rattle.std.proofs.lemmas.List.{get_or-reverse, length-reverse}
use Rattle.std.proofs.lemmas.List.Folds.{length-prefix_len}
use Rattle.std.proofs.lemmas.List.Sums.{prefix_len-le-length, prefix_len_passes, prefix_len_stops}
use Rattle.std.proofs.lemmas.Slice.Zip.{get_or-zip, length-zip}
use Rattle.octets.specs.Text.{same}
use Rattle.octets.proofs.Laws.Text.{same_equal, same_self}
use Rattle.names.specs.Internal.Plan.{starts_label, offers_tail, offers_size, CommonTail}

-- a tail of one octet more
pub tail_more : (a : List ℕ) (n : ℕ) → n < length a → drop (length a - (n + 1)) a ≡ get_or a (length a - 1 - n) 0 ∷ drop (length a - n) a
tail_more a n h =
    let i : length a - (n + 1) ≡ length a - 1 - n = omega arith in
    let j : suc (length a - 1 - n) ≡ length a - n = omega arith in
    ap (λ (k : ℕ). drop k a) i ∙ drop-cons a (length a - 1 - n) 0 (omega arith) ∙ ap (λ (k : ℕ). get_or a (length a - 1 - n) 0 ∷ drop k a) j

-- ---- pairs from the ends on, as long as they agree

abbrev agree : ℕ × ℕ → Bool
agree x = nat_eq x.0 x.1

module _ (a b : List ℕ) where
  abbrev pairs : List (ℕ × ℕ)
  pairs = zip (reverse a) (reverse b)

  abbrev size : ℕ
  size = prefix_len agree pairs

  pair_at : (k : ℕ) → k < length a → k < length b → get_or pairs k (0, 0) ≡ (get_or a (length a - 1 - k) 0, get_or b (length b - 1 - k) 0)
  pair_at k h l =
      let p : k < length (reverse a) = rw (length-reverse a) h in
      let q : k < length (reverse b) = rw (length-reverse b) l in
      get_or-zip (reverse a) (reverse b) k (0, 0) p q ∙ ap₂ (λ (x y : ℕ). (x, y)) (get_or-reverse a k 0 h) (get_or-reverse b k 0 l)

  pairs-length : length pairs ≡ min (length a) (length b)
  pairs-length = length-zip (reverse a) (reverse b) ∙ ap₂ min (length-reverse a) (length-reverse b)

  within_both : (size ≤ length a) × (size ≤ length b)
  within_both =
      let h : size ≤ length pairs = prefix_len-le-length agree pairs in
      let m : length pairs ≡ min (length a) (length b) = pairs-length in
      (omega arith, omega arith)

  tails_agree : (k : ℕ) → k ≤ size → drop (length a - k) a ≡ drop (length b - k) b
  tails_agree zero h =
      let i : length a ≤ length a - 0 = omega arith in
      let j : length b ≤ length b - 0 = omega arith in
      drop_of_length-le a i ∙ sym (drop_of_length-le b j)
  tails_agree (suc k) h =
      let p : k < length a = omega (arith, within_both.0) in
      let q : k < length b = omega (arith, within_both.1) in
      let i : length a - suc k ≡ length a - (k + 1) = omega arith in
      let j : length b - (k + 1) ≡ length b - suc k = omega arith in
      let e : get_or a (length a - 1 - k) 0 ≡ get_or b (length b - 1 - k) 0 =
      eqb-true _ _ (ap agree (sym (pair_at k p q)) ∙ prefix_len_passes agree pairs k (0, 0) h) in
      let t : drop (length a - k) a ≡ drop (length b - k) b = tails_agree k (omega arith) in
      ap (λ (n : ℕ). drop n a) i
      ∙ tail_more a k p
      ∙ ap₂ (λ (x : ℕ) (xs : List ℕ). x ∷ xs) e t
      ∙ sym (tail_more b k q)
      ∙ ap (λ (n : ℕ). drop n b) j

  -- they are what the two have in common
  pub common_tail : (n : ℕ) → n ≡ length (take_while agree pairs) → CommonTail a b n
  common_tail n s =
      subst (CommonTail a b) (sym (s ∙ length-prefix_len agree pairs))
      (record {
        first = within_both.0;
        second = within_both.1;
        common = tails_agree size (omega arith);
        most = λ p q e.
            let h : size < length pairs = omega (arith, pairs-length) in
            eqb-false _ _ (ap agree (sym (pair_at size p q)) ∙ prefix_len_stops agree pairs (0, 0) h) e;
      })

below : (n k m : ℕ) → n < k → k ≤ m → n < m
below n k m h l = omega arith

-- where the last octet that differs stands in a longer tail
in_tail : (m k n : ℕ) → n < k → k ≤ m → m - k + (k - 1 - n) ≡ m - 1 - n
in_tail m k n h l = omega arith

module _ (a b : List ℕ) (n : ℕ) (h : CommonTail a b n) where
  -- a shorter tail of what is common
  within : (k : ℕ) → k ≤ n → drop (length a - k) a ≡ drop (length b - k) b
  within k l =
      let s : length a - n + (n - k) ≡ length a - k = omega (arith, h.first) in
      let t : length b - n + (n - k) ≡ length b - k = omega (arith, h.second) in
      ap (λ (i : ℕ). drop i a) (sym s) ∙ sym (drop-drop (n - k) (length a - n) a) ∙ ap (drop (n - k)) h.common
      ∙ drop-drop (n - k) (length b - n) b ∙ ap (λ (i : ℕ). drop i b) t

  -- a longer one has the octets that differ
  beyond : (k : ℕ) → n < k → k ≤ length a → k ≤ length b → drop (length a - k) a ≡ drop (length b - k) b → ⊥
  beyond k l p q e =
      let s = in_tail (length a) k n l p in
      let t = in_tail (length b) k n l q in
      h.most (below n k (length a) l p) (below n k (length b) l q)
      (ap (λ (i : ℕ). get_or a i 0) (sym s) ∙ sym (get_or-drop (length a - k) a (k - 1 - n) 0) ∙ ap (λ (x : List ℕ). get_or x (k - 1 - n) 0) e
      ∙ get_or-drop (length b - k) b (k - 1 - n) 0 ∙ ap (λ (i : ℕ). get_or b i 0) t)

  tail_same : (k : ℕ) → k ≤ length a → k ≤ length b → same (drop (length a - k) a) (drop (length b - k) b) ≡ leb k n
  tail_same k p q = go (leb k n) refl
    where
      differ : (t : Bool) → same (drop (length a - k) a) (drop (length b - k) b) ≡ t → n < k → t ≡ false
      differ true e l = absurd (beyond k l p q (same_equal _ _ e))
      differ false e l = refl

      go : (t : Bool) → leb k n ≡ t → same (drop (length a - k) a) (drop (length b - k) b) ≡ t
      go true e = ap (λ (x : List ℕ). same x (drop (length b - k) b)) (within k (leb-true k n e)) ∙ same_self (drop (length b - k) b)
      go false e = differ _ refl (leb-false k n e)

-- so a tail's size is all that is tested of it
pub offers_common : (earlier text : List ℕ) (literal common before : ℕ) → CommonTail earlier text common → before ≤ length text
    → offers_size earlier literal (length text - before) common ≡ offers_tail earlier literal (drop before text)
unfolding offers_tail
offers_common earlier text literal common before h l =
    let size : ℕ = length text - before in
    let b : length text - size ≡ before = omega arith in
    rw (length-drop before text) (go (leb size (length earlier)) refl b)
  where
    turned : (x y z : Bool) → (x && y && z) ≡ (true && y && z && x)
    turned true true true = refl
    turned true true false = refl
    turned true false z = refl
    turned false true true = refl
    turned false true false = refl
    turned false false z = refl

    go : (t : Bool) → leb (length text - before) (length earlier) ≡ t → length text - (length text - before) ≡ before
        → offers_size earlier literal (length text - before) common
        ≡ (leb (length text - before) (length earlier) && ltb (length earlier - (length text - before)) literal && starts_label earlier (length earlier - (length text - before)) && same (drop (length earlier - (length text - before)) earlier) (drop before text))
    go true e b =
        let s = tail_same earlier text common h (length text - before) (leb-true (length text - before) (length earlier) e) (omega arith) in
        let s2 : same (drop (length earlier - (length text - before)) earlier) (drop before text) ≡ leb (length text - before) common = ap (λ (i : ℕ). same (drop (length earlier - (length text - before)) earlier) (drop i text)) (sym b) ∙ s in
        rw (e, s2) (turned (leb (length text - before) common) (ltb (length earlier - (length text - before)) literal) (starts_label earlier (length earlier - (length text - before))))
    go false e b =
        let l : length earlier < length text - before = leb-false (length text - before) (length earlier) e in
        rw (e, lt-leb (length text - before) common (omega (arith, h.first, l)))
