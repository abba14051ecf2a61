-- Laws of what writing leaves in a buffer: octet by octet, and one write after the other.
use mathlib.Core.Path.{◌≡◌, refl, sym, ap, ◌∙◌}
use mathlib.Core.List.{List, [], ◌∷◌, ◌++◌, append_assoc, append-nil}
use Prim.Native.Nat.{ℕ, suc, ◌+◌, ◌-◌, ◌≤◌, ◌<◌}
use native.Mathlib.Numerals.{add-one}
use native.Mathlib.Omega.{arith}
use lib.ListN.{length, set, take, drop, length-drop, length-append, drop_of_length-le}
use lib.Seq.{drop-cons, drop-drop, set-append_seam, take-append_seam, drop-append_seam, take_at, take_all}
use Rattle.octets.specs.Buffer.{over}

pub over_none : (d : List ℕ) → over [] d ≡ d
unfolding over
over_none d = refl

pub over-length : (xs d : List ℕ) → length xs ≤ length d → length (over xs d) ≡ length d
unfolding over
over-length xs d h = simp (length-append, length-drop) (omega arith)

-- one octet more
pub over-more : (xs d : List ℕ) (n v : ℕ) → length xs ≡ n → n < length d → set (over xs d) n v ≡ over (xs ++ (v ∷ [])) d
unfolding over
over-more xs d n v e h =
    let k : length xs < length d = omega arith in
    rw (← e, drop-cons d (length xs) 0 k, set-append_seam, length-append, add-one) (sym (append_assoc xs (v ∷ []) (drop (suc (length xs)) d)))

-- octets stored one after the other, from the front
pub stored_one : (d : List ℕ) (a : ℕ) → 0 < length d → set d 0 a ≡ over (a ∷ []) d
stored_one d a h = ap (λ (l : List ℕ). set l 0 a) (sym (over_none d)) ∙ over-more [] d 0 a refl h

pub stored-two : (d : List ℕ) (a b : ℕ) → 1 < length d → set (set d 0 a) 1 b ≡ over (a ∷ b ∷ []) d
stored-two d a b h = ap (λ (l : List ℕ). set l 1 b) (stored_one d a (omega arith)) ∙ over-more (a ∷ []) d 1 b refl h

pub stored_three : (d : List ℕ) (a b c : ℕ) → 2 < length d → set (set (set d 0 a) 1 b) 2 c ≡ over (a ∷ b ∷ c ∷ []) d
stored_three d a b c h = ap (λ (l : List ℕ). set l 2 c) (stored-two d a b (omega arith)) ∙ over-more (a ∷ b ∷ []) d 2 c refl h

pub stored_four : (d : List ℕ) (a b c e : ℕ) → 3 < length d → set (set (set (set d 0 a) 1 b) 2 c) 3 e ≡ over (a ∷ b ∷ c ∷ e ∷ []) d
stored_four d a b c e h = ap (λ (l : List ℕ). set l 3 e) (stored_three d a b c (omega arith)) ∙ over-more (a ∷ b ∷ c ∷ []) d 3 e refl h

-- octets laid over what comes after those laid before
pub over_then : (xs ys d : List ℕ) (n : ℕ) → length xs ≡ n → take n (over xs d) ++ over ys (drop n (over xs d)) ≡ over (xs ++ ys) d
unfolding over
over_then xs ys d n e =
    rw (← e, take-append_seam, drop-append_seam, drop-drop, length-append) (sym (append_assoc xs ys (drop (length xs + length ys) d)))

-- what is lent from n on, and comes back with octets laid over its front
pub lent_back : (ys back d : List ℕ) (n : ℕ) → back ≡ over ys (take (length d - n) (drop n d))
    → take n d ++ (back ++ drop (length d - n) (drop n d)) ≡ take n d ++ over ys (drop n d)
lent_back ys back d n b =
    let h : length (drop n d) ≤ length d - n = simp length-drop (omega arith) in
    ap (λ (x : List ℕ). take n d ++ (back ++ x)) (drop_of_length-le (drop n d) h)
    ∙ ap (λ (x : List ℕ). take n d ++ x) (append-nil back ∙ b ∙ ap (over ys) (take_all (length d - n) (drop n d) h))

-- the same, after those laid before
pub over_lent : (xs ys back d now : List ℕ) (n : ℕ) → now ≡ over xs d → length xs ≡ n → back ≡ over ys (take (length now - n) (drop n now))
    → take n now ++ (back ++ drop (length now - n) (drop n now)) ≡ over (xs ++ ys) d
over_lent xs ys back d now n e l b = lent_back ys back now n b ∙ ap (λ (x : List ℕ). take n x ++ over ys (drop n x)) e ∙ over_then xs ys d n l

-- what was laid there is read back
pub over_front : (xs d : List ℕ) (n : ℕ) → length xs ≡ n → take n (over xs d) ≡ xs
unfolding over
over_front xs d n e = take_at xs (drop (length xs) d) n e
