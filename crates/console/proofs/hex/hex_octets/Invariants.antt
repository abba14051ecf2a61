use Rattle.std.proofs.Common.{◌≡◌, vec_len}
use Rattle.console.proofs.hex.hex_octets.Given as goal

abbrev pub invariant-loop-high : goal.invariant-loop-high
invariant-loop-high l = vec_len l.octets ≡ l.high-index
