-- Document 01, "Reading a reply": the walk, a function of a reply's octets and an offset, and nothing else.
use Rattle.std.specs.Prelude.{Bool, true, false, cond, List, [], ◌∷◌, ℕ, zero, suc, ◌+◌, ◌*◌, ◌%◌, ◌/◌, eqb, leb, ltb, length, get_or, Option, None, Some, option_map}
use Rattle.octets.specs.{Lists.cut, Number.big}
use Rattle.names.specs.Name.{pointer_limit}

-- what stands at an offset, by the top two bits of its octet: a label's octets may still be missing
pub data Look : Type 0 where
  end : Look
  label : ℕ → Look
  pointer : ℕ → Look
  missing : Look
  reserved : Look

abbrev pub if_there : Bool → Look → Look
if_there true l = l
if_there false l = missing

-- a pointer's offset: its low 14 bits
abbrev pub aim : List ℕ → ℕ → ℕ
aim s at = big (cut s at 2) % pointer_limit

unfoldable pub look_at : List ℕ → ℕ → Look
look_at s at =
    let x = get_or s at 0 in
    if_there (ltb at (length s))
    (cond (eqb x 0) end
    (cond (eqb (x / 64) 0) (label x)
    (cond (eqb (x / 64) 3) (if_there (leb (at + 2) (length s)) (pointer (aim s at))) reserved)))

-- what to do at each look: a name ends, a label is read, a pointer followed; `lost` where an octet is missing, `wrong` where the top bits are
abbrev pub on_look : {A : Type 0} → Look → A → (ℕ → A) → (ℕ → A) → A → A → A
on_look end stop read jump lost wrong = stop
on_look (label n) stop read jump lost wrong = read n
on_look (pointer t) stop read jump lost wrong = jump t
on_look missing stop read jump lost wrong = lost
on_look reserved stop read jump lost wrong = wrong

-- the octets of a label of n at an offset: those after its length
abbrev pub label_at : List ℕ → ℕ → ℕ → List ℕ
label_at s at n = cut s (at + 1) n

-- a name as a walk finds it: its labels, and the pointers at offsets visited
pub record WalkedName : Type 0 where
  pub labels : List (List ℕ)
  pub pointers : ℕ

abbrev pub with_label : List ℕ → WalkedName → WalkedName
with_label l n = record { labels = l ∷ n.labels; pointers = n.pointers }

abbrev pub with_pointer : WalkedName → WalkedName
with_pointer n = record { labels = n.labels; pointers = suc n.pointers }

-- k steps at most from `at`, in a run of labels that starts at `run`: a pointer must aim below that start
unfoldable pub walk_from : ℕ → List ℕ → ℕ → ℕ → Option WalkedName
walk_from zero s run at = None
walk_from (suc k) s run at =
    on_look (look_at s at)
    (Some (record { labels = []; pointers = 0 }))
    (λ n. elim (leb (at + 1 + n) (length s)) [ true ↦ option_map (with_label (label_at s at n)) (walk_from k s run (at + 1 + n)) | false ↦ None ])
    (λ t. elim (ltb t run) [ true ↦ option_map with_pointer (walk_from k s t t) | false ↦ None ])
    None
    None

-- more steps than any walk takes: each label moves on within the octets, each pointer to an earlier start of a run
abbrev pub steps : List ℕ → ℕ
steps s = suc (length s) * suc (length s)

unfoldable pub walk : List ℕ → ℕ → Option WalkedName
walk s at = walk_from (steps s) s at at
