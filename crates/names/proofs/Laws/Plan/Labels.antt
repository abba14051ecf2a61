-- A text's labels by offsets in the text: where each starts and ends, and its octets written out.
use Rattle.std.proofs.Common.{nat_eq, not, take_while}
use Rattle.std.specs.List.{prefix_len}
use Rattle.std.proofs.lemmas.List.Folds.{length-prefix_len}
use mathlib.Core.Path.{◌≡◌, refl, sym, ap, ◌∙◌}
use mathlib.Core.Bool.{Bool, true, false, cond}
use mathlib.Core.List.{List, [], ◌∷◌, ◌++◌, flat_map}
use Prim.Native.Nat.{ℕ, zero, suc, ◌+◌, ◌-◌, ◌≤◌, ◌<◌}
use native.Mathlib.Nat.{not-suc-le-zero, le_of_suc-le-suc, zero-add, suc-add}
use native.Mathlib.Omega.{arith}
use lib.Dec.{eqb}
use lib.ListN.{length, get_or, take, drop}
use lib.Seq.{length-take-le}
use Rattle.octets.specs.Label.{to_first, on_dot, parts, labels, joined}
use Rattle.octets.proofs.Laws.Label.{dot, joined-parts}
use Rattle.names.specs.Name.{literal_label}
use Rattle.names.specs.Internal.Plan.{to_dot, starts_label, literal_octets, literal_size}

-- the labels from an offset on at which one starts, none past the end
abbrev pub rest_from : ℕ → List ℕ → List (List ℕ)
rest_from zero s = parts s
rest_from (suc n) [] = []
rest_from (suc n) (x ∷ xs) = rest_from n xs

pub dot_within : (s : List ℕ) → to_dot s ≤ length s
unfolding to_dot
dot_within [] = omega arith
dot_within (x ∷ xs) = go (eqb x dot) (dot_within xs)
  where
    go : (t : Bool) → to_dot xs ≤ length xs → cond t 0 (suc (to_dot xs)) ≤ suc (length xs)
    go true h = omega arith
    go false h = omega arith

abbrev no_dot : ℕ → Bool
no_dot x = not (nat_eq x 46)

-- they are those that are no dot
pub to_dot_taken : (s : List ℕ) → length (take_while no_dot s) ≡ to_dot s
unfolding to_dot
to_dot_taken s = length-prefix_len no_dot s ∙ run s
  where
    run : (s : List ℕ) → prefix_len no_dot s ≡ to_dot s
    run [] = refl
    run (x ∷ xs) = go (eqb x dot) (run xs)
      where
        go : (t : Bool) → prefix_len no_dot xs ≡ to_dot xs → cond (not t) (1 + prefix_len no_dot xs) 0 ≡ cond t 0 (suc (to_dot xs))
        go true e = refl
        go false e = let k : 1 + prefix_len no_dot xs ≡ suc (to_dot xs) = omega arith in k

-- what comes before an offset that is not the front
pub after_front : (s : List ℕ) (i : ℕ) → (i ≡ 0 → ⊥) → get_or s (i - 1) 0 ≡ get_or (46 ∷ s) i 0
after_front s zero h = absurd (h refl)
after_front s (suc i) h = let e : suc i - 1 ≡ i = omega arith in ap (λ (k : ℕ). get_or s k 0) e

pub front_starts : (s : List ℕ) (i : ℕ) → starts_label s i ≡ false → 1 ≤ i
front_starts s zero e = let z : ◌≡◌ {A = ℕ} 0 1 = cc in absurd (omega arith)
front_starts s (suc i) e = omega arith

-- the first label, and those after its dot
pub parts-step : (s : List ℕ) → parts s ≡ take (to_dot s) s ∷ rest_from (suc (to_dot s)) s
unfolding parts to_dot
parts-step [] = refl
parts-step (x ∷ xs) = go (eqb x dot) (parts-step xs)
  where
    go : (t : Bool) → parts xs ≡ take (to_dot xs) xs ∷ rest_from (suc (to_dot xs)) xs
        → on_dot t x (parts xs) ≡ take (cond t 0 (suc (to_dot xs))) (x ∷ xs) ∷ rest_from (suc (cond t 0 (suc (to_dot xs)))) (x ∷ xs)
    go true e = refl
    go false e = ap (to_first x) e

pub rest_drop : (n m : ℕ) (s : List ℕ) → n ≤ length s → rest_from (n + m) s ≡ rest_from m (drop n s)
rest_drop zero m s h = rw zero-add
rest_drop (suc n) m [] h = absurd (not-suc-le-zero h)
rest_drop (suc n) m (x ∷ xs) h = rw suc-add (rest_drop n m xs (le_of_suc-le-suc h))

pub rest_past : (n : ℕ) (s : List ℕ) → length s < n → rest_from n s ≡ []
rest_past zero s h = absurd (omega arith)
rest_past (suc n) [] h = refl
rest_past (suc n) (x ∷ xs) h = rest_past n xs (omega arith)

-- what is left at an offset: one label, and what is left after it
module _ (n : ℕ) (s : List ℕ) (h : n ≤ length s) where
  rest_here : rest_from n s ≡ parts (drop n s)
  rest_here = let e : n ≡ n + 0 = omega arith in ap (λ (k : ℕ). rest_from k s) e ∙ rest_drop n 0 s h

  pub rest_step : rest_from n s ≡ take (to_dot (drop n s)) (drop n s) ∷ rest_from (n + to_dot (drop n s) + 1) s
  rest_step =
      let k : ℕ = to_dot (drop n s) in
      let e : n + suc k ≡ n + k + 1 = omega arith in
      rest_here ∙ parts-step (drop n s) ∙ ap (λ (r : List (List ℕ)). take k (drop n s) ∷ r) (sym (rest_drop n (suc k) s h) ∙ ap (λ (m : ℕ). rest_from m s) e)

  pub rest_text : joined (rest_from n s) ≡ drop n s
  rest_text = ap joined rest_here ∙ joined-parts (drop n s)

pub first-length : (s : List ℕ) → length (take (to_dot s) s) ≡ to_dot s
first-length s = length-take-le (to_dot s) s (dot_within s)

pub some-labels : (s : List ℕ) → 1 ≤ length s → labels s ≡ parts s
unfolding labels
some-labels [] h = absurd (omega arith)
some-labels (x ∷ xs) h = refl

-- ---- labels written out, octet by octet

-- the octet that stands for what comes after y: a label's length where y is a dot
abbrev pub lead : ℕ → List ℕ → ℕ
lead y s = cond (eqb y 46) (to_dot s) y

abbrev literal_after : ℕ → List ℕ → List ℕ
literal_after y [] = lead y [] ∷ []
literal_after y (x ∷ xs) = lead y (x ∷ xs) ∷ literal_after x xs

abbrev unled : List (List ℕ) → List ℕ
unled [] = []
unled (l ∷ ls) = l ++ flat_map literal_label ls

literal_led : (s : List ℕ) → flat_map literal_label (parts s) ≡ to_dot s ∷ unled (parts s)
unfolding flat_map literal_label
literal_led s = rw (parts-step s) (ap (λ (n : ℕ). n ∷ take (to_dot s) s ++ flat_map literal_label (rest_from (suc (to_dot s)) s)) (first-length s))

literal_after_lem : (y : ℕ) (s : List ℕ) → literal_after y s ≡ lead y s ∷ unled (parts s)
unfolding parts flat_map
literal_after_lem y [] = refl
literal_after_lem y (x ∷ xs) = ap (λ (r : List ℕ). lead y (x ∷ xs) ∷ r) (literal_after_lem x xs ∙ go (eqb x dot))
  where
    go : (t : Bool) → (cond t (to_dot xs) x ∷ unled (parts xs)) ≡ unled (on_dot t x (parts xs))
    go true = sym (literal_led xs)
    go false = rw (parts-step xs)

literal_by_octets : (s : List ℕ) → 1 ≤ length s → literal_octets s ≡ literal_after 46 s
unfolding literal_octets
literal_by_octets s h = ap (flat_map literal_label) (some-labels s h) ∙ literal_led s ∙ sym (literal_after_lem 46 s)

after-length : (y : ℕ) (s : List ℕ) → length (literal_after y s) ≡ suc (length s)
after-length y [] = refl
after-length y (x ∷ xs) = ap suc (after-length x xs)

after-at : (y : ℕ) (s : List ℕ) (i : ℕ) → i ≤ length s → get_or (literal_after y s) i 0 ≡ lead (get_or (y ∷ s) i 0) (drop i s)
after-at y [] zero h = refl
after-at y [] (suc i) h = absurd (not-suc-le-zero h)
after-at y (x ∷ xs) zero h = refl
after-at y (x ∷ xs) (suc i) h = after-at x xs i (le_of_suc-le-suc h)

pub literal_length : (s : List ℕ) → length (literal_octets s) ≡ literal_size (length s)
unfolding literal_octets labels flat_map
literal_length [] = refl
literal_length (x ∷ xs) = ap length (literal_by_octets (x ∷ xs) (omega arith)) ∙ after-length 46 (x ∷ xs) ∙ omega arith

pub some_size : (n : ℕ) → (n ≡ 0 → ⊥) → n + 1 ≡ literal_size n
some_size zero h = absurd (h refl)
some_size (suc n) h = refl

pub literal_within : (s : List ℕ) (i : ℕ) → i < length (literal_octets s) → i ≤ length s
literal_within [] i h = omega (arith, literal_length [])
literal_within (x ∷ xs) i h = omega (arith, literal_length (x ∷ xs))

-- one octet: a label's length where a label starts, and else an octet of the text
pub literal_at : (s : List ℕ) (i : ℕ) → i < length (literal_octets s) → get_or (literal_octets s) i 0 ≡ lead (get_or (46 ∷ s) i 0) (drop i s)
unfolding literal_octets labels flat_map
literal_at [] i h = absurd (omega arith)
literal_at (x ∷ xs) i h =
    ap (λ (l : List ℕ). get_or l i 0) (literal_by_octets (x ∷ xs) (omega arith)) ∙ after-at 46 (x ∷ xs) i (literal_within (x ∷ xs) i h)
