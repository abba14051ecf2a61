-- Document 02, #108: when two account names are the same, for the judgement of a table and for looking an account up.
use Rattle.std.specs.Prelude.{Bool, List, ℕ, Option, option_map}
use Rattle.octets.specs.{Fold.fold_points, Lists.holds, Text.same}
use Rattle.unicode_text.specs.Utf8.{points}

-- a text's code points, folded; none where it is not UTF-8
unfoldable pub folded_text : List ℕ → Option (List ℕ)
folded_text s = option_map fold_points (points s)

-- both are UTF-8 and fold to the same code points
unfoldable pub same_account_name : List ℕ → List ℕ → Bool
same_account_name a b = holds (λ s. holds (same s) (folded_text b)) (folded_text a)
