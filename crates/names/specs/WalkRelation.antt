-- The walk as a relation, and what is said of it: the function finds what the relation says and nothing else, and octets appended change no walk that found a name.
use Rattle.std.specs.Prelude.{◌≡◌, List, [], ◌∷◌, ◌++◌, ℕ, suc, ◌+◌, ◌<◌, ◌≤◌, length, Some}
use Rattle.names.specs.Walk.{end, label, pointer, look_at, label_at, WalkedName, walk}

-- from `at`, in a run that starts at `run`: the labels read, the pointers followed, and where the name's field ends
pub data Walks (s : List ℕ) : ℕ → ℕ → List (List ℕ) → ℕ → ℕ → Type 0 where
  ends : {run at : ℕ} → look_at s at ≡ end → Walks s run at [] 0 (at + 1)
  reads : {run at n c next : ℕ} {l : List ℕ} {ls : List (List ℕ)} → look_at s at ≡ label n → at + 1 + n ≤ length s → label_at s at n ≡ l
      → Walks s run (at + 1 + n) ls c next → Walks s run at (l ∷ ls) c next
  points : {run at t c next : ℕ} {ls : List (List ℕ)} → look_at s at ≡ pointer t → t < run → Walks s t t ls c next → Walks s run at ls (suc c) (at + 2)

abbrev pub WalkFinds : Type 0
WalkFinds = (s : List ℕ) (at c next : ℕ) (ls : List (List ℕ)) → Walks s at at ls c next → walk s at ≡ Some (record { labels = ls; pointers = c })

abbrev pub WalkFound : Type 0
WalkFound = (s : List ℕ) (at : ℕ) (m : WalkedName) → walk s at ≡ Some m → (next : ℕ) × Walks s at at m.labels m.pointers next

abbrev pub WalkLonger : Type 0
WalkLonger = (s t : List ℕ) (run at c next : ℕ) (ls : List (List ℕ)) → Walks s run at ls c next → Walks (s ++ t) run at ls c next
