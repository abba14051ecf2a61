use Rattle.std.proofs.Common.{option_map, None, Some}
use borrow.Author.Rules.{rules}
use mathlib.Core.Path.{◌≡◌, sym, ap, ◌∙◌, subst}
use Prim.Native.Nat.{◌*◌, ◌-◌, ◌≤◌}
use native.Mathlib.Omega.{arith}
use lib.ListN.{length, drop}
use Rattle.unicode_text.specs.Utf8.{points}
use Rattle.unicode_text.specs.Utf16.{point_octets, points_octets, utf16}
use Rattle.unicode_text.specs.Internal.Point.{PointRead}
use Rattle.unicode_text.proofs.Laws.Point.{end-points}
use Rattle.unicode_text.proofs.Laws.Writing.{size_left, size-start, size-next, size-end, length-told}
use Rattle.unicode_text.proofs.utf16.utf16_size.Given as goal

abbrev pub invariant-loop-point : goal.invariant-loop-point
invariant-loop-point l = (l.at ≤ length l.s) × (l.size ≤ 4 * l.at) × (size_left point_octets l.size (points (drop l.at l.s)) ≡ option_map length (option_map points_octets (points l.s)))

abbrev pub decreases-loop-point : goal.decreases-loop-point
decreases-loop-point l = length l.s - l.at
