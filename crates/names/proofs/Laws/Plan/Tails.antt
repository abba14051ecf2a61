-- The tails that one name offers, and the one test that finds a tail among them.
use Rattle.std.proofs.Common.{Option, None, Some}
use mathlib.Core.Path.{◌≡◌, refl, sym, ap, ap₂, ◌∙◌}
use mathlib.Core.Bool.{Bool, true, false, cond, ◌&&◌, and-false}
use mathlib.Core.List.{List, [], ◌∷◌}
use Prim.Native.Nat.{ℕ, zero, suc, ◌+◌, ◌-◌, ◌≤◌, ◌<◌}
use native.Mathlib.Omega.{arith}
use lib.Dec.{eqb, ltb, leb}
use lib.ListN.{length, get_or, drop}
use borrow.Author.Tests.{lt-ltb, le-ltb, leb-true, leb-false, ltb-true, ltb-false}
use Rattle.octets.specs.Label.{on_dot, parts, labels, joined}
use Rattle.octets.specs.Lists.{first, first_or, keep_if}
use Rattle.octets.specs.Text.{same}
use Rattle.octets.proofs.Laws.Label.{dot, parts_made, joined-parts}
use Rattle.octets.proofs.Laws.Lists.{both_left}
use Rattle.octets.proofs.Laws.Text.{same_lengths}
use Rattle.names.specs.Name.{Tail}
use Rattle.names.specs.Internal.Plan.{tails_from, offers_tail, literal_octets, starts_label, aimed, aim_or}
use Rattle.names.specs.declared.plan.Aim.{Aim}
use Rattle.names.proofs.Laws.Plan.Labels.{literal_length}

-- ---- tails octet by octet

abbrev tail_at : ℕ → List ℕ → Tail
tail_at at s = record { offset = at; text = s }

-- those of a text after an octet y, from the octets that are written out
abbrev tails_after : ℕ → ℕ → ℕ → List ℕ → List Tail
tails_after y at zero s = []
tails_after y at (suc m) [] = keep_if (eqb y 46) (tail_at at []) []
tails_after y at (suc m) (x ∷ xs) = keep_if (eqb y 46) (tail_at at (x ∷ xs)) (tails_after x (at + 1) m xs)

-- those from the second label on
abbrev later_tails : ℕ → ℕ → List (List ℕ) → List Tail
later_tails at m [] = []
later_tails at m (l ∷ ls) = tails_from (at + (1 + length l)) (m - (1 + length l)) ls

no_tails : (at : ℕ) (ls : List (List ℕ)) → tails_from at 0 ls ≡ []
unfolding tails_from
no_tails at [] = refl
no_tails at (l ∷ ls) = refl

later_none : (at : ℕ) (ls : List (List ℕ)) → later_tails at 0 ls ≡ []
later_none at [] = refl
later_none at (l ∷ ls) = let e : 0 - (1 + length l) ≡ 0 = omega arith in ap (λ (m : ℕ). tails_from (at + (1 + length l)) m ls) e ∙ no_tails (at + (1 + length l)) ls

abbrev led_by : Bool → ℕ → ℕ → List ℕ → List Tail → List Tail
led_by t at zero s rest = []
led_by t at (suc m) s rest = keep_if t (tail_at at s) rest

tails_led : (at m : ℕ) (s : List ℕ) → led_by true at m s (later_tails at m (parts s)) ≡ tails_from at m (parts s)
unfolding tails_from
tails_led at zero s = sym (no_tails at (parts s))
tails_led at (suc m) s = go (parts s) (joined-parts s) (parts_made s)
  where
    go : (ls : List (List ℕ)) → joined ls ≡ s → (l : List ℕ) × (r : List (List ℕ)) × (ls ≡ l ∷ r) → tail_at at s ∷ later_tails at (suc m) ls ≡ tails_from at (suc m) ls
    go [] e w = let f = w.2 in let z : ◌≡◌ {A = ℕ} 0 1 = cc in absurd (omega arith)
    go (l ∷ ls) e w =
        let k : suc m - (1 + length l) ≡ m - length l = omega arith in
        ap₂ (λ (x : List ℕ) (n : ℕ). tail_at at x ∷ tails_from (at + (1 + length l)) n ls) (sym e) k

led_off : (at m : ℕ) (s : List ℕ) (ls : List (List ℕ)) → led_by false at m s (later_tails at m ls) ≡ later_tails at m ls
led_off at zero s ls = sym (later_none at ls)
led_off at (suc m) s ls = refl

tails-after : (y at m : ℕ) (s : List ℕ) → tails_after y at m s ≡ led_by (eqb y 46) at m s (later_tails at m (parts s))
unfolding parts tails_from
tails-after y at zero s = refl
tails-after y at (suc m) [] = refl
tails-after y at (suc m) (x ∷ xs) = ap (keep_if (eqb y 46) (tail_at at (x ∷ xs))) (tails-after x (at + 1) m xs ∙ go (eqb x dot) (parts_made xs))
  where
    go : (t : Bool) → (l : List ℕ) × (ls : List (List ℕ)) × (parts xs ≡ l ∷ ls)
        → led_by t (at + 1) m xs (later_tails (at + 1) m (parts xs)) ≡ later_tails at (suc m) (on_dot t x (parts xs))
    go true w = let k : m ≡ suc m - 1 = omega arith in tails_led (at + 1) m xs ∙ ap (λ (n : ℕ). tails_from (at + 1) n (parts xs)) k
    go false w =
        let l : List ℕ = w.0 in
        let a : at + 1 + (1 + length l) ≡ at + (1 + suc (length l)) = omega arith in
        let b : m - (1 + length l) ≡ suc m - (1 + suc (length l)) = omega arith in
        led_off (at + 1) m xs (parts xs) ∙ rw w.2 (ap₂ (λ (n k : ℕ). tails_from n k w.1) a b)

-- ---- the one tail of a length

ltb_suc : (m n : ℕ) → ltb m n ≡ ltb (suc m) (suc n)
ltb_suc m n = go (ltb m n) refl
  where
    go : (b : Bool) → ltb m n ≡ b → b ≡ ltb (suc m) (suc n)
    go true e = let h : m < n = ltb-true m n e in sym (lt-ltb (suc m) (suc n) (omega arith))
    go false e = let h : n ≤ m = ltb-false m n e in sym (le-ltb (suc m) (suc n) (omega arith))

module _ (x : List ℕ) where
  abbrev is_tail : Tail → Bool
  is_tail t = same t.text x

  -- a tail of another length is passed
  pass : (t : Bool) (at : ℕ) (s : List ℕ) (rest : List Tail) → (length s ≡ length x → ⊥) → first is_tail (keep_if t (tail_at at s) rest) ≡ first is_tail rest
  unfolding first
  pass true at s rest h = rw (same_lengths s x h)
  pass false at s rest h = refl

  none_longer : (y at m : ℕ) (s : List ℕ) → length s < length x → first is_tail (tails_after y at m s) ≡ None
  unfolding first
  none_longer y at zero s h = refl
  none_longer y at (suc m) [] h = pass (eqb y 46) at [] [] (λ e. omega arith)
  none_longer y at (suc m) (z ∷ zs) h = pass (eqb y 46) at (z ∷ zs) (tails_after z (at + 1) m zs) (λ e. omega arith) ∙ none_longer z (at + 1) m zs (omega arith)

  abbrev found_if : Bool → ℕ → List ℕ → Option Tail
  found_if t at s = cond t (Some (tail_at at s)) None

  found_here : (t : Bool) (at : ℕ) (s : List ℕ) (rest : List Tail) → first is_tail rest ≡ None → first is_tail (keep_if t (tail_at at s) rest) ≡ found_if (t && same s x) (at + 0) s
  unfolding first
  found_here true at s rest e = go (same s x)
    where
      go : (b : Bool) → first_or b (tail_at at s) (first is_tail rest) ≡ found_if b (at + 0) s
      go true = let k : at ≡ at + 0 = omega arith in ap (λ (n : ℕ). Some (tail_at n s)) k
      go false = e
  found_here false at s rest e = e

  -- the one that begins q octets on
  found_at : (q y at m : ℕ) (s : List ℕ) → length s ≡ q + length x
      → first is_tail (tails_after y at m s) ≡ found_if (ltb q m && eqb (get_or (y ∷ s) q 0) 46 && same (drop q s) x) (at + q) (drop q s)
  unfolding first
  found_at q y at zero s h = rw (le-ltb q 0 (omega arith))
  found_at zero y at (suc m) [] h = rw (lt-ltb 0 (suc m) (omega arith)) (found_here (eqb y 46) at [] [] refl)
  found_at zero y at (suc m) (z ∷ zs) h =
      rw (lt-ltb 0 (suc m) (omega arith)) (found_here (eqb y 46) at (z ∷ zs) (tails_after z (at + 1) m zs) (none_longer z (at + 1) m zs (omega arith)))
  found_at (suc q) y at (suc m) [] h = absurd (omega arith)
  found_at (suc q) y at (suc m) (z ∷ zs) h =
      let k : at + 1 + q ≡ at + suc q = omega arith in
      pass (eqb y 46) at (z ∷ zs) (tails_after z (at + 1) m zs) (λ e. omega arith)
      ∙ found_at q z (at + 1) m zs (omega arith)
      ∙ ap₂ (λ (b : Bool) (n : ℕ). found_if (b && eqb (get_or (z ∷ zs) q 0) 46 && same (drop q zs) x) n (drop q zs)) (ltb_suc q m) k

  pub offers_length : (earlier : List ℕ) (literal : ℕ) → offers_tail earlier literal x ≡ true → length x ≤ length earlier
  unfolding offers_tail
  offers_length earlier literal e =
      let start : ℕ = length earlier - length x in
      let fits : Bool = leb (length x) (length earlier) in
      let out : Bool = ltb start literal in
      let starts : Bool = starts_label earlier start in
      leb-true (length x) (length earlier) (both_left fits out (both_left (fits && out) starts (both_left (fits && out && starts) (same (drop start earlier) x) e)))

  -- one test says whether a name offers the tail, and where
  pub aim-found : (at literal : ℕ) (earlier : List ℕ) (rest : Option Aim) → literal ≤ length (literal_octets earlier)
      → aim_or (first is_tail (tails_from at literal (labels earlier))) rest ≡ cond (offers_tail earlier literal x) (aimed 0 (at + (length earlier - length x))) rest
  unfolding offers_tail labels tails_from first
  aim-found at literal [] rest h =
      let z : literal ≤ 0 - length x = omega (arith, literal_length []) in
      rw (le-ltb (0 - length x) literal z, and-false)
  aim-found at literal (y ∷ ys) rest h =
      ap (λ (ts : List Tail). aim_or (first is_tail ts) rest) (sym (tails_led at literal (y ∷ ys)) ∙ sym (tails-after 46 at literal (y ∷ ys)))
      ∙ go (leb (length x) (length (y ∷ ys))) refl
    where
      q : ℕ
      q = length (y ∷ ys) - length x

      picked : (b : Bool) → aim_or (found_if b (at + q) (drop q (y ∷ ys))) rest ≡ cond b (aimed 0 (at + q)) rest
      picked true = refl
      picked false = refl

      go : (b : Bool) → leb (length x) (length (y ∷ ys)) ≡ b → aim_or (first is_tail (tails_after 46 at literal (y ∷ ys))) rest
          ≡ cond (b && ltb q literal && starts_label (y ∷ ys) q && same (drop q (y ∷ ys)) x) (aimed 0 (at + q)) rest
      go true e =
          let k : length x ≤ length (y ∷ ys) = leb-true (length x) (length (y ∷ ys)) e in
          ap (λ (o : Option Tail). aim_or o rest) (found_at q 46 at literal (y ∷ ys) (omega arith))
          ∙ picked (ltb q literal && starts_label (y ∷ ys) q && same (drop q (y ∷ ys)) x)
      go false e = ap (λ (o : Option Tail). aim_or o rest) (none_longer 46 at literal (y ∷ ys) (leb-false (length x) (length (y ∷ ys)) e))
