use Rattle.std.proofs.Common.{option_map}
use mathlib.Core.Path.{◌≡◌}
use Prim.Native.Nat.{◌*◌, ◌-◌, ◌≤◌}
use lib.ListN.{length, drop}
use Rattle.unicode_text.specs.{Utf8.utf8_of, Utf16.points_of16, Utf16.utf8_from16}
use Rattle.unicode_text.proofs.Laws.Writing.{size_left}
use Rattle.transcode.proofs.to8.utf8_size.Given as goal

-- every code point takes at least two octets of the text, and at most three for each two of them
abbrev pub invariant-loop-point : goal.invariant-loop-point
invariant-loop-point l = (l.at ≤ length l.s) × (2 * l.size ≤ 3 * l.at) × (size_left utf8_of l.size (points_of16 (drop l.at l.s)) ≡ option_map length (utf8_from16 l.s))

abbrev pub decreases-loop-point : goal.decreases-loop-point
decreases-loop-point l = length l.s - l.at
