-- An answer as the members of C's struct: its length, the context used and the form.
use Rattle.std.specs.Prelude.{List, [], ◌∷◌, ℕ, Option, None, Some}
use Rattle.answers.specs.declared.Form.{Form}
use Rattle.answers.specs.declared.Form.TheVariants.{Nt40, Response, Ex}
use Rattle.answers.specs.Try.{Try}
use Rattle.locator.specs.declared.Answered.{Answered}
use Rattle.locator.specs.Answer.{answer_length, answer_context, answer_form}

abbrev pub form_number : Form → ℕ
form_number Nt40 = 1
form_number Response = 2
form_number Ex = 3

-- 0 is no form
abbrev pub form_or_none : Option Form → ℕ
form_or_none None = 0
form_or_none (Some form) = form_number form

abbrev pub answer_members : Try Answered → List ℕ
answer_members a = answer_length a ∷ answer_context a ∷ form_or_none (answer_form a) ∷ []
