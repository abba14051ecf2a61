-- The writer's answers, by its judgements in their order.
use Rattle.std.proofs.Common.{Ok, Err, is_some}
use Rattle.std.specs.List.{list_any}
use mathlib.Core.Path.{◌≡◌, refl, ap}
use mathlib.Core.Bool.{Bool, true, false, ◌||◌}
use mathlib.Core.List.{List, [], ◌∷◌}
use Prim.Native.Nat.{ℕ, ◌≤◌, ◌<◌, min}
use native.Mathlib.Decide.{dec_lt}
use native.Mathlib.Omega.{arith}
use borrow.Author.Tests.{lt-ltb, le-ltb}
use lib.ListN.{length}
use Rattle.answers.specs.declared.Refusal.TheVariants.{FilterShape, FilterLength, NoRoom}
use Rattle.octets.specs.Lists.{any}
use Rattle.filter.specs.declared.request.Request.{Request}
use Rattle.filter_position.specs.Filter.{filter_limit}
use Rattle.filter.specs.Request.{clause_names, clause}
use Rattle.filter_octets.specs.Octets.{filter_octets}
use Rattle.filter_octets.specs.Internal.Size.{element_size, contents}
use Rattle.filter_octets.proofs.Laws.Size.{head_bounds, filter-length}
use Rattle.filter_write.specs.Write.{filter_for}

-- a clause is present, in std's word
pub same_any : {A : Type 0} (p : A → Bool) (xs : List A) → list_any p xs ≡ any p xs
unfolding any
same_any p [] = refl
same_any p (x ∷ xs) = ap (λ (b : Bool). p x || b) (same_any p xs)

-- a size that stops at 4,096 tells what is over 2,048 and what is not
pub capped_long : (n m : ℕ) → m ≡ min n 4096 → filter_limit < element_size m → filter_limit < element_size n
capped_long n m e h = by (dec_lt 4096 n)
  where
    by : Dec (4096 < n) → filter_limit < element_size n
    by (yes l) = let b = head_bounds n in omega arith
    by (no l) = let q : m ≡ n = omega arith in rw q at h

pub capped_short : (n m : ℕ) → m ≡ min n 4096 → element_size m ≤ filter_limit → m ≡ n
capped_short n m e h =
    let b = head_bounds m in
    omega arith

module _ (source : List ℕ) (r : Request) (room : ℕ) where
  pub answer_none : any (λ name. is_some (clause r name)) clause_names ≡ false → filter_for source r room ≡ Err FilterShape
  unfolding filter_for
  answer_none e = rw (filter_for, e)

  module _ (e : any (λ name. is_some (clause r name)) clause_names ≡ true) where
    pub answer_long : filter_limit < element_size (length (contents source r clause_names)) → filter_for source r room ≡ Err FilterLength
    unfolding filter_for
    answer_long h = rw (filter_for, e, filter-length source r, lt-ltb filter_limit _ h)

    module _ (h : element_size (length (contents source r clause_names)) ≤ filter_limit) where
      pub answer_room : room < element_size (length (contents source r clause_names)) → filter_for source r room ≡ Err NoRoom
      unfolding filter_for
      answer_room k = rw (filter_for, e, filter-length source r, le-ltb filter_limit _ h, lt-ltb room _ k)

      pub answer_good : element_size (length (contents source r clause_names)) ≤ room → filter_for source r room ≡ Ok (filter_octets source r)
      unfolding filter_for
      answer_good k = rw (filter_for, e, filter-length source r, le-ltb filter_limit _ h, le-ltb room _ k)
