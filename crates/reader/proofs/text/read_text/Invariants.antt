use Prim.Native.Nat.{◌-◌}
use lib.ListN.{length}
use Rattle.reader.proofs.Laws.Text.{TextLeft}
use Rattle.reader.proofs.text.read_text.Given as goal

abbrev pub invariant-loop-next : goal.invariant-loop-next
invariant-loop-next l = TextLeft l.reply l.start l.at l.pending

abbrev pub decreases-loop-next : goal.decreases-loop-next
decreases-loop-next l = length l.reply - l.at
