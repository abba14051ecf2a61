use borrow.Author.Rules.{rules}
use mathlib.Core.Path.{◌≡◌, refl, sym, ap, ◌∙◌, subst}
use mathlib.Core.List.{List, [], ◌++◌}
use Prim.Native.Nat.{ℕ, ◌+◌, ◌-◌, ◌≤◌}
use native.Mathlib.Omega.{arith}
use lib.ListN.{length, drop, length-take, length-drop, length-append}
use Rattle.octets.specs.Buffer.{over}
use Rattle.octets.proofs.Laws.Buffer.{over_none, over-length, over_lent}
use Rattle.unicode_text.specs.declared.utf8.PointAt.TheVariants.{Point}
use Rattle.unicode_text.specs.Utf8.{points}
use Rattle.unicode_text.specs.Utf16.{point_octets, utf16}
use Rattle.unicode_text.specs.Internal.Point.{PointRead}
use Rattle.unicode_text.proofs.Laws.Point.{end-points}
use Rattle.unicode_text.proofs.Laws.Writing.{octets_left, left_end, written_all, written_enough, written_next, written_fits}
use Rattle.unicode_text.proofs.utf16.put_utf16.Given as goal

abbrev pub invariant-loop-written : goal.invariant-loop-written
invariant-loop-written l =
    (w : List ℕ) × (l.at ≤ length l.s) × (length l.out ≡ length l.initial.out) × (l.written ≡ length w) × (w ++ octets_left point_octets (points (drop l.at l.s)) ≡ utf16 l.s) × (l.out ≡ over w l.initial.out)

abbrev pub decreases-loop-written : goal.decreases-loop-written
decreases-loop-written l = length l.s - l.at
