use Prim.Native.Nat.{◌+◌, ◌-◌}
use Rattle.reader_text.proofs.Laws.Text.{TextLeft}
use Rattle.reader_text.proofs.text.name_text.Given as goal

abbrev pub invariant-loop-octets : goal.invariant-loop-octets
invariant-loop-octets l = TextLeft l.reply l.start l.octets l.walk.run l.walk.at l.walk.spent l.walk.pointers

abbrev pub decreases-loop-octets : goal.decreases-loop-octets
decreases-loop-octets l = (254 - l.walk.spent) + (16 - l.walk.pointers)
