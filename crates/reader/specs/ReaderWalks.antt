-- Reader and walk, for any octets and offset: what the reader accepts is the walk's, and it accepts every name of the walk that keeps to its two limits.
use Rattle.std.specs.Prelude.{◌≡◌, ℕ, ◌+◌, ◌≤◌, length, Ok, Some}
use mathlib.Core.List.{List, [], ◌∷◌, ◌++◌, flat_map}
use Rattle.names.specs.{Name.literal_label, WalkRelation.Walks}
use Rattle.names.specs.Walk.{WalkedName, walk, steps}
use Rattle.reader.specs.{declared.field.Read.Read, Name.read_name_from, Name.read_name}

-- where it accepts a name at an offset, its labels and its count are the walk's from there
abbrev pub ReaderWalks : Type 0
ReaderWalks = (s : List ℕ) (at : ℕ) (f : Read WalkedName) → read_name s at ≡ Ok f → walk s at ≡ Some f.value

-- a name written out: each label after its length, and the final zero
abbrev pub written_out : List (List ℕ) → List ℕ
written_out labels = flat_map literal_label labels ++ (0 ∷ [])

-- and it keeps to the two limits of document 01
abbrev pub ReaderLimits : Type 0
ReaderLimits = (s : List ℕ) (at : ℕ) (f : Read WalkedName) → read_name s at ≡ Ok f → (length (written_out f.value.labels) ≤ 255) × (f.value.pointers ≤ 16)

-- where the walk ends with a name of at most 255 octets written out and at most 16 pointers, it accepts that name, with the labels, the count and the end of its field
abbrev pub ReaderAccepts : Type 0
ReaderAccepts =
    (s : List ℕ) (at c next : ℕ) (ls : List (List ℕ)) → Walks s at at ls c next → length (written_out ls) ≤ 255 → c ≤ 16
    → read_name s at ≡ Ok (record { value = record { labels = ls; pointers = c }; next = next })

-- more steps change no answer: nothing is refused for want of steps
abbrev pub ReaderStepsEnough : Type 0
ReaderStepsEnough = (s : List ℕ) (at k : ℕ) → read_name_from (steps s + k) s at at 0 0 ≡ read_name s at
