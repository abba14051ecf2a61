use Rattle.std.proofs.Common.{◌≡◌, ◌+◌, ◌&&◌, drop}
use Rattle.filter_gather.specs.Internal.Letters.{letters_at}
use Rattle.filter_gather.proofs.letters.are_letters.Given as goal

abbrev pub invariant-loop-i : goal.invariant-loop-i
invariant-loop-i g l = (l.same && letters_at l.s (l.at + l.i) (drop l.i l.small)) ≡ letters_at l.s l.at l.small
