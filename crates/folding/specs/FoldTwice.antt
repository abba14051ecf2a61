-- Document 02, #108: the code points of a text, folded twice, are those folded once. It holds of any list of numbers.
use Rattle.std.specs.Prelude.{◌≡◌, List, ℕ}
use Rattle.octets.specs.Fold.{fold_points}

abbrev pub FoldTwice : Type 0
FoldTwice = (cs : List ℕ) → fold_points (fold_points cs) ≡ fold_points cs
