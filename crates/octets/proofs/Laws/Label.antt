-- Laws of labels: taking apart and joining undo each other, and a text's labels are no longer than it.
use mathlib.Core.Path.{◌≡◌, refl, sym, ap, ◌∙◌}
use mathlib.Core.Bool.{Bool, true, false}
use mathlib.Core.List.{List, [], ◌∷◌, ◌++◌}
use Prim.Native.Nat.{ℕ, suc, ◌+◌, ◌≤◌, ◌<◌}
use native.Mathlib.Omega.{arith}
use lib.Dec.{eqb}
use lib.ListN.{length, length-append}
use borrow.Author.Tests.{eqb-true}
use Rattle.octets.specs.Label.{to_first, on_dot, parts, labels, joined}
use Rattle.octets.proofs.Laws.Lists.{Every, every_weaken}

-- the octet that parts labels
abbrev pub dot : ℕ
dot = 46

abbrev pub Dotless : List ℕ → Type 0
Dotless = Every (λ x. eqb x dot ≡ false)

-- labels that stand in a name: 1 to 63 octets and no dot
abbrev pub Plain : List (List ℕ) → Type 0
Plain = Every (λ l. (1 ≤ length l) × (length l ≤ 63) × Dotless l)

-- the octets of labels written out: each after its length, and the final zero
abbrev pub size : List (List ℕ) → ℕ
size [] = 1
size (l ∷ ls) = 1 + length l + size ls

-- ---- there is always a first part

pub parts_made : (s : List ℕ) → (l : List ℕ) × (ls : List (List ℕ)) × (parts s ≡ l ∷ ls)
unfolding parts
parts_made [] = ([], [], refl)
parts_made (x ∷ xs) = go (eqb x dot) (parts_made xs)
  where
    go : (t : Bool) → (l : List ℕ) × (ls : List (List ℕ)) × (parts xs ≡ l ∷ ls) → (l : List ℕ) × (ls : List (List ℕ)) × (on_dot t x (parts xs) ≡ l ∷ ls)
    go true r = ([], parts xs, refl)
    go false r = (x ∷ r.0, r.1, ap (to_first x) r.2)

-- ---- joined, the parts are the text

joined-first : (x : ℕ) (l : List ℕ) (ls : List (List ℕ)) → joined ((x ∷ l) ∷ ls) ≡ x ∷ joined (l ∷ ls)
unfolding joined
joined-first x l [] = refl
joined-first x l (m ∷ ls) = refl

pub joined-parts : (s : List ℕ) → joined (parts s) ≡ s
unfolding parts joined
joined-parts [] = refl
joined-parts (x ∷ xs) = go (eqb x dot) refl (parts_made xs) (joined-parts xs)
  where
    go : (t : Bool) → eqb x dot ≡ t → (l : List ℕ) × (ls : List (List ℕ)) × (parts xs ≡ l ∷ ls) → joined (parts xs) ≡ xs
        → joined (on_dot t x (parts xs)) ≡ x ∷ xs
    go true q r e =
        let z : dot ≡ x = sym (eqb-true x dot q) in
        let d : joined ([] ∷ parts xs) ≡ 46 ∷ joined (parts xs) = rw r.2 in
        d ∙ cc
    go false q r e =
        let d : joined (to_first x (parts xs)) ≡ x ∷ joined (parts xs) = rw r.2 (joined-first x r.0 r.1) in
        d ∙ cc

pub joined-labels : (s : List ℕ) → joined (labels s) ≡ s
unfolding labels joined
joined-labels [] = refl
joined-labels (x ∷ xs) = joined-parts (x ∷ xs)

-- ---- labels joined come apart again

labels-parts : (s : List ℕ) → 1 ≤ length s → labels s ≡ parts s
unfolding labels
labels-parts [] h = absurd (omega arith)
labels-parts (x ∷ xs) h = refl

pub parts_whole : (l : List ℕ) → Dotless l → parts l ≡ l ∷ []
unfolding parts
parts_whole [] d = refl
parts_whole (x ∷ l) d = rw (d.0, parts_whole l d.1)

parts_front : (l r : List ℕ) → Dotless l → parts (l ++ (46 ∷ r)) ≡ l ∷ parts r
unfolding parts
parts_front [] r d = refl
parts_front (x ∷ l) r d = rw (d.0, parts_front l r d.1)

parts-joined : (ls : List (List ℕ)) → Every Dotless ls → 1 ≤ length ls → parts (joined ls) ≡ ls
unfolding joined
parts-joined [] d h = absurd (omega arith)
parts-joined (l ∷ []) d h = parts_whole l d.0
parts-joined (l ∷ m ∷ ls) d h = parts_front l (joined (m ∷ ls)) d.0 ∙ ap (λ (r : List (List ℕ)). l ∷ r) (parts-joined (m ∷ ls) d.1 (omega arith))

plain_dotless : (ls : List (List ℕ)) → Plain ls → Every Dotless ls
plain_dotless [] p = tt
plain_dotless (l ∷ ls) p = (p.0.2, plain_dotless ls p.1)

pub labels-joined : (ls : List (List ℕ)) → Plain ls → labels (joined ls) ≡ ls
unfolding labels joined
labels-joined [] p = refl
labels-joined (l ∷ ls) p = labels-parts (joined (l ∷ ls)) (some_octet l ls p.0.0) ∙ parts-joined (l ∷ ls) (plain_dotless (l ∷ ls) p) (omega arith)
  where
    some_octet : (l : List ℕ) (ls : List (List ℕ)) → 1 ≤ length l → 1 ≤ length (joined (l ∷ ls))
    some_octet [] ls h = absurd (omega arith)
    some_octet (x ∷ l) ls h = rw (joined-first x l ls) (omega arith)

-- ---- lengths

pub size-parts : (s : List ℕ) → size (parts s) ≡ length s + 2
unfolding parts
size-parts [] = refl
size-parts (x ∷ xs) = go (eqb x dot) (parts_made xs) (size-parts xs)
  where
    go : (t : Bool) → (l : List ℕ) × (ls : List (List ℕ)) × (parts xs ≡ l ∷ ls) → size (parts xs) ≡ length xs + 2 → size (on_dot t x (parts xs)) ≡ suc (length xs) + 2
    go true r e = omega arith
    go false r e =
        let k : size (r.0 ∷ r.1) ≡ length xs + 2 = rw r.2 at e in
        rw r.2 (omega arith)

-- a text's labels take two octets more than the text: a length before the first and a zero after the last
pub size-labels : (s : List ℕ) → size (labels s) ≤ length s + 2
unfolding labels
size-labels [] = omega arith
size-labels (x ∷ xs) = omega (arith, size-parts (x ∷ xs))

pub size_positive : (ls : List (List ℕ)) → 1 ≤ size ls
size_positive [] = omega arith
size_positive (l ∷ ls) = omega arith

pub label-short : (ls : List (List ℕ)) (n : ℕ) → size ls ≤ n + 2 → Every (λ l. length l ≤ n) ls
label-short [] n h = tt
label-short (l ∷ ls) n h = let p : 1 ≤ size ls = size_positive ls in (omega arith, label-short ls n (omega arith))

pub parts_dotless : (s : List ℕ) → Every Dotless (parts s)
unfolding parts
parts_dotless [] = (tt, tt)
parts_dotless (x ∷ xs) = go (eqb x dot) refl (parts xs) (parts_dotless xs)
  where
    go : (t : Bool) → eqb x dot ≡ t → (ps : List (List ℕ)) → Every Dotless ps → Every Dotless (on_dot t x ps)
    go true q ps d = (tt, d)
    go false q [] d = ((q, tt), tt)
    go false q (l ∷ ls) d = ((q, d.0), d.1)

-- a text's labels are plain where none is empty and each is short enough
pub labels_plain : (s : List ℕ) → Every (λ l. (1 ≤ length l) × (length l ≤ 63)) (labels s) → Plain (labels s)
unfolding labels
labels_plain [] h = tt
labels_plain (x ∷ xs) h = go (parts (x ∷ xs)) h (parts_dotless (x ∷ xs))
  where
    go : (ls : List (List ℕ)) → Every (λ l. (1 ≤ length l) × (length l ≤ 63)) ls → Every Dotless ls → Plain ls
    go [] h d = tt
    go (l ∷ ls) h d = ((h.0.0, h.0.1, d.0), go ls h.1 d.1)

-- a longer tail is a longer text
pub joined_shorter : (l : List ℕ) (ls : List (List ℕ)) → 1 ≤ length l → length (joined ls) < length (joined (l ∷ ls))
unfolding joined
joined_shorter l [] h = omega arith
joined_shorter l (m ∷ ls) h = simp length-append (omega arith)

-- ---- a text that ends in a dot has an empty label behind it

-- no label but the first may be empty
abbrev RestFilled : List (List ℕ) → Type 0
RestFilled [] = Unit
RestFilled (l ∷ ls) = Every (λ m. 1 ≤ length m) ls

rest_empty : (s : List ℕ) → RestFilled (parts (s ++ (dot ∷ []))) → ⊥
unfolding parts
rest_empty [] h = let n : ◌≤◌ 1 0 = h.0 in omega arith
rest_empty (x ∷ xs) h = go (eqb x dot) (parts (xs ++ (dot ∷ []))) (rest_empty xs) h
  where
    go : (t : Bool) (ps : List (List ℕ)) → (RestFilled ps → ⊥) → RestFilled (on_dot t x ps) → ⊥
    go true [] n h = n tt
    go true (l ∷ ls) n h = n h.1
    go false [] n h = n tt
    go false (l ∷ ls) n h = n h

rest_filled : (ls : List (List ℕ)) → Plain ls → RestFilled ls
rest_filled [] p = tt
rest_filled (l ∷ ls) p = every_weaken (λ m. (1 ≤ length m) × (length m ≤ 63) × Dotless m) (λ m. 1 ≤ length m) (λ m q. q.0) ls p.1

pub no_closing_dot : (s : List ℕ) → Plain (labels (s ++ (dot ∷ []))) → ⊥
unfolding labels
no_closing_dot [] p = rest_empty [] (rest_filled (parts (dot ∷ [])) p)
no_closing_dot (x ∷ xs) p = rest_empty (x ∷ xs) (rest_filled (parts (x ∷ xs ++ (dot ∷ []))) p)
