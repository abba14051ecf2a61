use Rattle.std.proofs.Common.{◌≡◌, ◌≤◌, length}
use Rattle.vectors.proofs.input.take_octets.Given as goal

abbrev pub invariant-loop-octet : goal.invariant-loop-octet
invariant-loop-octet g l = (l.kept ≤ length l.line) × (length l.line ≡ length l.initial.line)
