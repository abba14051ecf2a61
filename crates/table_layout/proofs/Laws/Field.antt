-- Room that ends where it starts, or before, is no room.
use mathlib.Core.Path.{◌≡◌}
use mathlib.Core.Bool.{true}
use mathlib.Core.List.{List}
use Prim.Native.Nat.{ℕ, ◌-◌, ◌≤◌}
use native.Mathlib.Omega.{arith}
use Rattle.octets.specs.Lists.{all}
use Rattle.table_layout.specs.Field.{zeros}

pub zeros_none : (s : List ℕ) (from end : ℕ) → end ≤ from → true ≡ zeros s from end
unfolding zeros all
zeros_none s from end h = let e : end - from ≡ 0 = omega arith in rw e
