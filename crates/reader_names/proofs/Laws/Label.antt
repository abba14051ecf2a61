-- How long labels are, written out and joined by dots.
use mathlib.Core.Path.{◌≡◌, refl}
use mathlib.Core.List.{List, [], ◌∷◌, ◌++◌}
use Prim.Native.Nat.{ℕ, ◌+◌, ◌-◌}
use native.Mathlib.Omega.{arith}
use lib.ListN.{length, length-append}
use Rattle.octets.specs.Label.{joined}
use Rattle.octets.proofs.Laws.Label.{size, size_positive}

-- labels joined by dots take two octets less than written out, a length octet and the final zero
pub joined_length : (ls : List (List ℕ)) → length (joined ls) ≡ size ls - 2
unfolding joined
joined_length [] = refl
joined_length (l ∷ []) = omega arith
joined_length (l ∷ m ∷ ls) =
    let e : length (joined (m ∷ ls)) ≡ size (m ∷ ls) - 2 = joined_length (m ∷ ls) in
    let p = size_positive ls in
    simp length-append (omega arith)

pub size-more : (ls : List (List ℕ)) (l : List ℕ) → size (ls ++ (l ∷ [])) ≡ size ls + 1 + length l
size-more [] l = omega arith
size-more (m ∷ ls) l = let e = size-more ls l in omega arith
