-- A name's next step, as the code takes it.
use Rattle.std.specs.Prelude.{not, ◌||◌, List, ℕ, ◌+◌, ◌≤◌, ◌<◌, eqb, ltb, length, Ok, Err}
use Rattle.answers.specs.declared.Refusal.TheVariants.{ReplyText}
use Rattle.answers.specs.Try.{Try, refused_if}
use Rattle.names.specs.Walk.{look_at, on_look}
use Rattle.reader.specs.Name.{written_most, pointers_most, cut_after}
use Rattle.reader_names.specs.declared.step.NameStep.{NameStep}
use Rattle.reader_names.specs.declared.step.NameStep.TheVariants.{Ends, Label, Pointer}

-- at a length octet n
unfoldable pub label_step : List ℕ → ℕ → ℕ → ℕ → ℕ → Try NameStep
label_step s at spent pointers n = refused_if (ltb written_most (spent + 1 + n + 1)) ReplyText (refused_if (ltb (length s) (at + 1 + n)) (cut_after pointers) (Ok (Label n)))

-- at a pointer to t
unfoldable pub pointer_step : ℕ → ℕ → ℕ → Try NameStep
pointer_step run pointers t = refused_if (not (ltb t run) || eqb pointers pointers_most) ReplyText (Ok (Pointer t))

unfoldable pub name_step : List ℕ → ℕ → ℕ → ℕ → ℕ → Try NameStep
name_step s run at spent pointers = on_look (look_at s at) (Ok Ends) (label_step s at spent pointers) (pointer_step run pointers) (Err (cut_after pointers)) (Err ReplyText)

-- the bounds that a step keeps to
abbrev pub StepWithin : ℕ → ℕ → ℕ → ℕ → ℕ → NameStep → Type 0
StepWithin length run at spent pointers Ends = at < length
StepWithin length run at spent pointers (Label n) = (1 ≤ n) × (at + 1 + n ≤ length) × (spent + 1 + n ≤ 254)
StepWithin length run at spent pointers (Pointer t) = (at + 2 ≤ length) × (t < run) × (pointers < 16)
