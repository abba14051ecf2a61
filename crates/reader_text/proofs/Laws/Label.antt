-- A label put after a text makes it the text of one label more.
use mathlib.Core.Path.{◌≡◌, refl, ap, sym, ◌∙◌}
use mathlib.Core.List.{List, [], ◌∷◌, ◌++◌, append_assoc}
use Prim.Native.Nat.{ℕ, zero, suc, ◌+◌, ◌-◌, ◌<◌, ◌≤◌}
use native.Mathlib.Omega.{arith}
use lib.ListN.{length, take, drop, set}
use lib.Seq.{take-suc-set, drop-set-lt, drop-drop}
use Rattle.lent.specs.Internal.OverAt.{over_at}
use Rattle.octets.specs.Buffer.{over}
use Rattle.octets.specs.Label.{joined}
use Rattle.octets.proofs.Laws.Label.{size, size_positive}
use Rattle.reader_text.specs.Internal.Label.{dotted}

-- one more label, after labels that take so many octets
pub joined-more : (ls : List (List ℕ)) (l : List ℕ) (spent : ℕ) → spent + 1 ≡ size ls → joined (ls ++ (l ∷ [])) ≡ joined ls ++ dotted spent l
unfolding joined
joined-more [] l zero e = refl
joined-more [] l (suc n) e = absurd (omega arith)
joined-more (m ∷ ls) l zero e = let p = size_positive ls in absurd (omega arith)
joined-more (m ∷ ls) l (suc n) e = some m ls
  where
    some : (m : List ℕ) (ls : List (List ℕ)) → joined (m ∷ (ls ++ (l ∷ []))) ≡ joined (m ∷ ls) ++ (46 ∷ l)
    some m [] = refl
    some m (x ∷ xs) = ap (λ (y : List ℕ). m ++ (46 ∷ y)) (some x xs) ∙ sym (append_assoc m (46 ∷ joined (x ∷ xs)) (46 ∷ l))

-- a dot and a label laid one after the other
dot_then : (n : ℕ) (label d : List ℕ) → n < length d → over_at (suc n) label (set d n 46) ≡ over_at n (46 ∷ label) d
unfolding over_at over
dot_then n label d h =
    let front : take (suc n) (set d n 46) ≡ take n d ++ (46 ∷ []) = take-suc-set d n 46 h in
    let back : drop (suc n) (set d n 46) ≡ drop (suc n) d = drop-set-lt (suc n) d n 46 (omega arith) in
    let sum : suc n + length label ≡ n + suc (length label) = omega arith in
    let far : drop (length label) (drop (suc n) d) ≡ drop (suc (length label)) (drop n d) =
    drop-drop (length label) (suc n) d ∙ ap (λ (k : ℕ). drop k d) sum ∙ sym (drop-drop (suc (length label)) n d) in
    ap (λ (x : List ℕ). x ++ (label ++ drop (length label) (drop (suc n) (set d n 46)))) front
    ∙ ap (λ (x : List ℕ). (take n d ++ (46 ∷ [])) ++ (label ++ drop (length label) x)) back
    ∙ ap (λ (x : List ℕ). (take n d ++ (46 ∷ [])) ++ (label ++ x)) far
    ∙ append_assoc (take n d) (46 ∷ []) (label ++ drop (suc (length label)) (drop n d))

pub dot_laid : (spent : ℕ) (label d : List ℕ) → (spent ≡ 0 → ⊥) → spent ≤ length d → over_at spent label (set d (spent - 1) 46) ≡ over_at (spent - 1) (dotted spent label) d
dot_laid zero label d some h = absurd (some refl)
dot_laid (suc n) label d some h = let e : suc n - 1 ≡ n = omega arith in rw e (dot_then n label d (omega arith))

pub dotted-length : (spent : ℕ) (label : List ℕ) → spent + 1 + length label - 1 ≡ (spent - 1) + length (dotted spent label)
dotted-length zero label = omega arith
dotted-length (suc n) label = omega arith
