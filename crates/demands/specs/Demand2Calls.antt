-- Demand 2's reading, of the three calls: what an answering call leaves in the buffer, `read_reply` and `name_text` give back together, in all three forms, as the
-- texts and numbers that went in. By what the three contracts ensure, and the definitions.
use Rattle.std.specs.Prelude.{◌≡◌, List, ℕ, ◌<◌, length}
use Rattle.answers.specs.{declared.Form.Form, Try.Try}
use Rattle.reader_forms.specs.{declared.reading.Reading.Reading, Reading.reading_length, Reading.ReadReplyPromise, Settled.read_from}
use Rattle.reader_text.specs.{declared.NameText.NameText, Text.text_given, Text.NameTextPromise}
use Rattle.reply.specs.Reply.{Reply}
use Rattle.demands.specs.{Derivation.EveryReply, ReplyLaw.GivenBack}

-- whatever `read_reply` returns of the octets, told the form and v, and `name_text` of each offset in them: fields with these texts give back what went in
abbrev pub ReadsBack : Form → ℕ → Reply → List ℕ → ℕ → Type 0
ReadsBack form v r s len =
    (given : Try Reading) (texts : ℕ → NameText)
    → ReadReplyPromise s form v given
    → ((at : ℕ) → at < length s → NameTextPromise s at (texts at))
    → GivenBack form r s (read_from (λ at. text_given (texts at)) given) × (reading_length given ≡ len)

abbrev pub Demand2Calls : Type 0
Demand2Calls = EveryReply ReadsBack
