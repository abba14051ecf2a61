-- The labels of a name are std's parts between dots.
use mathlib.Core.Path.{◌≡◌, refl, ap}
use mathlib.Core.Bool.{Bool, true, false, cond}
use mathlib.Core.List.{List, [], ◌∷◌}
use Prim.Native.Nat.{ℕ}
use lib.Dec.{eqb}
use Rattle.std.specs.List.{slice_split, onto_first}
use Rattle.octets.specs.Label.{parts, to_first, on_dot}

first_onto : (x : ℕ) (ls : List (List ℕ)) → onto_first x ls ≡ to_first x ls
first_onto x [] = refl
first_onto x (l ∷ ls) = refl

pub split_parts : (s : List ℕ) → slice_split (λ x. eqb x 46) s ≡ parts s
unfolding parts
split_parts [] = refl
split_parts (x ∷ s) = go (eqb x 46) (split_parts s)
  where
    go : (b : Bool) → slice_split (λ y. eqb y 46) s ≡ parts s
        → cond b ([] ∷ slice_split (λ y. eqb y 46) s) (onto_first x (slice_split (λ y. eqb y 46) s)) ≡ on_dot b x (parts s)
    go true e = ap (λ (ls : List (List ℕ)). [] ∷ ls) e
    go false e = rw e (first_onto x (parts s))
