-- Document 01, "Reading a reply": a name's labels are its parts between dots.
use Rattle.std.specs.Prelude.{Bool, true, false, List, [], ◌∷◌, ◌++◌, ℕ, eqb}

abbrev pub to_first : ℕ → List (List ℕ) → List (List ℕ)
to_first x [] = (x ∷ []) ∷ []
to_first x (l ∷ ls) = (x ∷ l) ∷ ls

abbrev pub on_dot : Bool → ℕ → List (List ℕ) → List (List ℕ)
on_dot true x ls = [] ∷ ls
on_dot false x ls = to_first x ls

-- the parts between dots, one at least; those before the first dot and after the last count
unfoldable pub parts : List ℕ → List (List ℕ)
parts [] = [] ∷ []
parts (x ∷ xs) = on_dot (eqb x 46) x (parts xs)

-- a name's labels, none if it is empty; how many they are is document 01's L
unfoldable pub labels : List ℕ → List (List ℕ)
labels [] = []
labels (x ∷ xs) = parts (x ∷ xs)

-- labels joined by dots
unfoldable pub joined : List (List ℕ) → List ℕ
joined [] = []
joined (l ∷ []) = l
joined (l ∷ m ∷ ls) = l ++ (46 ∷ joined (m ∷ ls))
