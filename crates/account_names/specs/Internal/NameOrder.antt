-- The order of account names, by their folded code points.
use Rattle.std.specs.Prelude.{◌≡◌, Bool, true, false, ◌&&◌, List, [], ◌∷◌, ℕ, zero, suc, ◌+◌, ◌≤◌, ◌<◌, leb, length, drop}
use Rattle.octets.specs.Fold.{fold_points}
use Rattle.unicode_text.specs.Utf8.{is_utf8}
use Rattle.unicode_text.specs.Internal.Point.{readable}
use Rattle.std.specs.declared.cmp.Ordering.{Ordering}
use Rattle.std.specs.declared.cmp.Ordering.TheVariants.{Less, Equal, Greater}
use Rattle.account_names.specs.Internal.Ordering.{compare}

-- what can be read of a name, folded
unfoldable pub name_key : List ℕ → List ℕ
name_key s = fold_points (readable s)

abbrev pub equal_if : Bool → Ordering → Ordering
equal_if b Less = Less
equal_if true Equal = Equal
equal_if false Equal = Greater
equal_if b Greater = Greater

-- by their keys; octets that are no UTF-8 are the same as nothing
unfoldable pub compare_names : List ℕ → List ℕ → Ordering
compare_names a b = equal_if (is_utf8 a && is_utf8 b) (compare (name_key a) (name_key b))

-- what a rank and the offset after it say of a text from an offset on
abbrev pub RankRead : List ℕ → ℕ → ℕ → ℕ → Type 0
RankRead s at zero next = (name_key (drop at s) ≡ []) × (is_utf8 (drop at s) ≡ leb (length s) at)
RankRead s at (suc point) next = (at < next) × (next ≤ length s) × (name_key (drop at s) ≡ point ∷ name_key (drop next s)) × (is_utf8 (drop at s) ≡ is_utf8 (drop next s))

-- how they compare from an offset of each on is how they compare from a later one on
abbrev pub GoesOn : List ℕ → ℕ → ℕ → List ℕ → ℕ → ℕ → Type 0
GoesOn a i next b j after = (next ≤ length a) × (after ≤ length b) × (compare_names (drop next a) (drop after b) ≡ compare_names (drop i a) (drop j b))

-- so many octets at an offset of each, if any, change nothing in it
abbrev pub Alike : List ℕ → ℕ → List ℕ → ℕ → ℕ → Type 0
Alike a i b j size = 1 ≤ size → GoesOn a i (i + size) b j (j + size)
