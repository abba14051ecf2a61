-- Bounds that a step of the walk keeps to.
use Rattle.std.specs.Prelude.{ℕ, ◌+◌, ◌<◌, ◌≤◌}
use Rattle.reply_lines.specs.declared.walk.WalkStep.{WalkStep}
use Rattle.reply_lines.specs.declared.walk.WalkStep.TheVariants.{Ends, Label, Pointer}

abbrev pub StepWithin : ℕ → ℕ → ℕ → WalkStep → Type 0
StepWithin length run at Ends = Unit {0}
StepWithin length run at (Label n) = at + 1 + n ≤ length
StepWithin length run at (Pointer t) = t < run
