-- Laws of stretches of lent slices.
use mathlib.Core.List.{List}
use Prim.Native.Nat.{ℕ, ◌≤◌}
use native.Mathlib.Omega.{arith}
use lib.ListN.{length, length-take}
use Rattle.lent.specs.declared.stretch.Stretch.{Stretch}
use Rattle.lent.specs.Internal.Stretch.{octets_at}

-- a stretch has no more octets than it says
pub stretch_short : (table request : List ℕ) (s : Stretch) → length (octets_at table request s) ≤ s.len
stretch_short table request s = simp length-take (omega arith)

-- nor more than any text
pub text_short : (table request : List ℕ) (s : Stretch) → length (octets_at table request s) ≤ 255
text_short table request s = let h : s.len ≤ 255 = s.short in omega (arith, stretch_short table request s)
