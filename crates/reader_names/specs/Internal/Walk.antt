-- How a walk along a name starts, and where a step leads it.
use Rattle.std.specs.Prelude.{cond, ℕ, ◌+◌, eqb}
use Rattle.reader_names.specs.declared.step.NameStep.{NameStep}
use Rattle.reader_names.specs.declared.step.NameStep.TheVariants.{Ends, Label, Pointer}
use Rattle.reader_names.specs.declared.walk.NameWalk.{NameWalk}

abbrev pub walk_from : ℕ → NameWalk
walk_from start = record { run = start; at = start; spent = 0; pointers = 0; next = 0 }

abbrev pub moved : NameWalk → NameStep → NameWalk
moved w Ends = record { run = w.run; at = w.at; spent = w.spent; pointers = w.pointers; next = cond (eqb w.pointers 0) (w.at + 1) w.next }
moved w (Label n) = record { run = w.run; at = w.at + 1 + n; spent = w.spent + 1 + n; pointers = w.pointers; next = w.next }
moved w (Pointer t) = record { run = t; at = t; spent = w.spent; pointers = w.pointers + 1; next = cond (eqb w.pointers 0) (w.at + 2) w.next }
