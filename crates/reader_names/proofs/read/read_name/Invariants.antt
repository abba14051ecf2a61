use mathlib.Core.List.{List}
use Prim.Native.Nat.{ℕ, ◌+◌, ◌-◌}
use Rattle.reader_names.proofs.Laws.NameRead.{NameLeft}
use Rattle.reader_names.proofs.read.read_name.Given as goal

abbrev pub invariant-loop : goal.invariant-loop
invariant-loop l = (read : List (List ℕ)) × NameLeft l.reply l.start read l.walk.run l.walk.at l.walk.spent l.walk.pointers l.walk.next

abbrev pub decreases-loop : goal.decreases-loop
decreases-loop l = (254 - l.walk.spent) + (16 - l.walk.pointers)
