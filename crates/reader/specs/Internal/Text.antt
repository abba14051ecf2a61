-- A text of a received reply, unit by unit, as the code reads it.
use Rattle.std.specs.Prelude.{◌≡◌, Bool, List, ℕ, ◌+◌, ◌≤◌, Ok, Err}
use Rattle.answers.specs.declared.Refusal.TheVariants.{ReplyText}
use Rattle.answers.specs.Try.{Try, ◌>>=◌}
use Rattle.octets.specs.Number.{little}
use Rattle.reader.specs.declared.text.Turn.{Turn}
use Rattle.reader.specs.declared.text.Turn.TheVariants as turn
use Rattle.reader.specs.declared.text.UnitStep.{UnitStep}
use Rattle.reader.specs.declared.text.UnitStep.TheVariants as step
use Rattle.reader.specs.Field.{read_octets}
use Rattle.reader.specs.Text.{unit_of, turn}

abbrev pub step_to : ℕ → Turn → Try UnitStep
step_to next turn.Stop = Ok (step.Stop next)
step_to next (turn.Go after_high_lem) = Ok (step.Go after_high_lem next)
step_to next turn.Wrong = Err ReplyText

-- the unit at an offset, after a high surrogate or not
unfoldable pub unit_step : List ℕ → ℕ → Bool → Try UnitStep
unit_step s at after_high_lem = do
  u ← read_octets s at 2
  step_to u.next (turn after_high_lem (unit_of (little u.value)))

-- the next unit starts two octets on, within the reply
abbrev pub StepWithin : ℕ → ℕ → UnitStep → Type 0
StepWithin length at (step.Stop next) = (next ≡ at + 2) × (next ≤ length)
StepWithin length at (step.Go after_high_lem next) = (next ≡ at + 2) × (next ≤ length)
