use mathlib.Core.Path.{◌≡◌}
use mathlib.Core.List.{List, ◌++◌}
use Prim.Native.Nat.{ℕ, ◌-◌, ◌≤◌}
use lib.ListN.{length, drop}
use Rattle.octets.specs.Buffer.{over}
use Rattle.unicode_text.specs.{Utf8.utf8_of, Utf16.points_of16}
use Rattle.transcode.specs.Internal.{Text8.utf8_text}
use Rattle.unicode_text.proofs.Laws.Writing.{octets_left}
use Rattle.transcode.proofs.to8.put_utf8.Given as goal

abbrev pub invariant-loop-written : goal.invariant-loop-written
invariant-loop-written l =
    (w : List ℕ) × (l.at ≤ length l.s) × (length l.out ≡ length l.initial.out) × (l.written ≡ length w) × (w ++ octets_left utf8_of (points_of16 (drop l.at l.s)) ≡ utf8_text l.s) × (l.out ≡ over w l.initial.out) × (l.size ≡ length (utf8_text l.s))

abbrev pub decreases-loop-written : goal.decreases-loop-written
decreases-loop-written l = length l.s - l.at
