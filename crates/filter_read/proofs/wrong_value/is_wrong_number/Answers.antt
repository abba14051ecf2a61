use mathlib.Core.Path.{ap}
use mathlib.Core.Bool.{not}
use mathlib.Core.List.{List}
use Prim.Native.Nat.{ℕ}
use Rattle.filter_read.specs.Value.{is_number}
use Rattle.filter_read.proofs.wrong_value.is_wrong_number.Goals as goal

pub returns : goal.returns
returns c = rw c.in-Some.is (ap (λ (x : List ℕ). not (is_number x)) c.of.ensures)
