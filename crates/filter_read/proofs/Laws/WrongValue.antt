-- Where 9 finds nothing, NtVer and AAC are numbers.
use mathlib.Core.Path.{◌≡◌}
use mathlib.Core.Bool.{false, ◌||◌}
use mathlib.Core.List.{List}
use Prim.Native.Nat.{ℕ}
use Rattle.octets.proofs.Laws.Lists.{neither_left, neither_right}
use Rattle.filter.specs.Request.{Clause}
use Rattle.filter_read.specs.Internal.WrongValue.{wrong_number, wrong_user}

module _ (s : List ℕ) (v aac user : Clause) (h : (wrong_number s v || wrong_number s aac || wrong_user s user) ≡ false) where
  numbers : (wrong_number s v || wrong_number s aac) ≡ false
  numbers = neither_left (wrong_number s v || wrong_number s aac) (wrong_user s user) h

  pub version-right : wrong_number s v ≡ false
  version-right = neither_left (wrong_number s v) (wrong_number s aac) numbers

  pub aac-right : wrong_number s aac ≡ false
  aac-right = neither_right (wrong_number s v) (wrong_number s aac) numbers
