-- An octet as it is compared, with ASCII case ignored or not.
use Rattle.std.specs.Prelude.{Bool, true, false, ℕ}
use Rattle.octets.specs.Text.{lower}

abbrev pub fold_if : Bool → ℕ → ℕ
fold_if true x = lower x
fold_if false x = x
