-- Tests and searches over a list, the same for octets, labels, blocks and records.
use Rattle.std.specs.Prelude.{Bool, true, false, ◌&&◌, ◌||◌, not, List, [], ◌∷◌, ℕ, zero, suc, take, drop, Option, None, Some}

module _ {A : Type 0} where
  -- the test holds of each element
  unfoldable pub all : (A → Bool) → List A → Bool
  all p [] = true
  all p (x ∷ xs) = p x && all p xs

  -- the test holds of some element
  unfoldable pub any : (A → Bool) → List A → Bool
  any p [] = false
  any p (x ∷ xs) = p x || any p xs

  abbrev pub first_or : Bool → A → Option A → Option A
  first_or true x rest = Some x
  first_or false x rest = rest

  -- the first element of which the test holds
  unfoldable pub first : (A → Bool) → List A → Option A
  first p [] = None
  first p (x ∷ xs) = first_or (p x) x (first p xs)

  abbrev pub keep_if : Bool → A → List A → List A
  keep_if true x rest = x ∷ rest
  keep_if false x rest = rest

  -- the elements of which the test holds, in order
  unfoldable pub keep : (A → Bool) → List A → List A
  keep p [] = []
  keep p (x ∷ xs) = keep_if (p x) x (keep p xs)

  -- no two elements are alike
  unfoldable pub unique : (A → A → Bool) → List A → Bool
  unique alike [] = true
  unique alike (x ∷ xs) = not (any (alike x) xs) && unique alike xs

  -- what is there passes the test; nothing there passes none
  abbrev pub holds : (A → Bool) → Option A → Bool
  holds p None = false
  holds p (Some x) = p x

  -- what is there passes the test, if anything is there
  abbrev pub none_or : (A → Bool) → Option A → Bool
  none_or p None = true
  none_or p (Some x) = p x

  -- a stretch: n elements from `at`, or as many of them as there are
  abbrev pub cut : List A → ℕ → ℕ → List A
  cut s at n = take n (drop at s)

  -- n pieces of w elements each, one after the other
  unfoldable pub pieces : ℕ → ℕ → List A → List (List A)
  pieces zero w s = []
  pieces (suc n) w s = take w s ∷ pieces n w (drop w s)
