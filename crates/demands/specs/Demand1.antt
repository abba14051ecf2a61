-- Demand 1: whatever comes in, a call refuses by the documents' numbers, with no length, context, form or fields, and a refusal leaves every lent buffer as it was.
-- One field for each public call, by its name; that every call ends is proved with its code.
use Rattle.std.specs.Prelude.{◌≡◌, true, ◌||◌, List, [], ◌∷◌, ℕ, ◌<◌, eqb, Err, None}
use Rattle.std.specs.Result.{result_unwrap_or}
use Rattle.answers.specs.{declared.Form.Form, declared.Refusal.Refusal, Refusal.NumberOfPromise, Try.Try, Try.number_of, Try.value_of}
use Rattle.filter.specs.declared.request.Request.{Request}
use Rattle.filter_read.specs.{Value.JudgeValuesPromise, Taken.TakeApartPromise}
use Rattle.locator.specs.declared.Answered.{Answered}
use Rattle.locator.specs.Answer.{answer_length, answer_context, answer_form}
use Rattle.mailslot.specs.{declared.message.Message.Message, Read.ReadMessagePromise}
use Rattle.octets.specs.{Lists.any, Text.within}
use Rattle.reader_forms.specs.declared.reading.Reading.{Reading}
use Rattle.reader_forms.specs.Reading.{reading_length, reading_fields, ReadReplyPromise}
use Rattle.reader_text.specs.declared.NameText.{NameText}
use Rattle.reader_text.specs.Text.{text_given, NameTextPromise}
use Rattle.table.specs.declared.Caller.{Caller}
use Rattle.table_check.specs.{Check.check_of_lem, Check.CheckOfPromise, declared.check.Check.Check}
use Rattle.table_whole.specs.Judgement.{JudgePromise}
use Rattle.demands.specs.Calls.{WriteFilterPromise, WriteMessagePromise, AnswerPingPromise, AnswerMailslotPromise}

-- numbers of refusals: from a number to another, or one of some
abbrev pub FromTo : ℕ → ℕ → ℕ → Type 0
FromTo low high n = within low high n ≡ true

abbrev pub OneOf : List ℕ → ℕ → Type 0
OneOf numbers n = any (eqb n) numbers ≡ true

-- those for a table image, a filter, its values, a filter that is to be written, a ping, a reply and a name of one, a mailslot message, one that is to be written,
-- and one that is answered; and all of them
abbrev pub ForImage : ℕ → Type 0
ForImage = FromTo 1 4

abbrev pub ForFilter : ℕ → Type 0
ForFilter = FromTo 5 8

abbrev pub ForValues : ℕ → Type 0
ForValues = FromTo 9 9

abbrev pub ForWriting : ℕ → Type 0
ForWriting = OneOf (6 ∷ 5 ∷ 19 ∷ [])

abbrev pub ForPing : ℕ → Type 0
ForPing n = within 1 9 n || within 11 19 n ≡ true

abbrev pub ForReply : ℕ → Type 0
ForReply = FromTo 31 35

abbrev pub ForName : ℕ → Type 0
ForName = OneOf (31 ∷ 33 ∷ [])

abbrev pub ForMessage : ℕ → Type 0
ForMessage = FromTo 41 41

abbrev pub ForMessageWriting : ℕ → Type 0
ForMessageWriting = OneOf (41 ∷ 19 ∷ [])

abbrev pub ForMailslot : ℕ → Type 0
ForMailslot n = within 1 4 n || eqb n 41 || within 15 19 n ≡ true

abbrev pub ForAny : ℕ → Type 0
ForAny n = within 1 9 n || within 11 19 n || within 31 35 n || eqb n 41 ≡ true

pub record Demand1 : Type 0 where
  -- it refuses nothing: of all octets it gives the two sums of the definition, 16 bits each
  pub check_of : (octets : List ℕ) (c : Check) → CheckOfPromise octets c → (c ≡ check_of_lem octets) × (c.a < 65536) × (c.b < 65536)
  pub judge : (image : List ℕ) (j : Try (Unit {0})) (r : Refusal) → JudgePromise image j → j ≡ Err r → ForImage (number_of j)
  pub take_apart : (filter : List ℕ) (t : Try Request) (r : Refusal) → TakeApartPromise filter t → t ≡ Err r → ForFilter (number_of t)
  pub judge_values : (filter : List ℕ) (request : Request) (j : Try ℕ) (r : Refusal) → JudgeValuesPromise filter request j → j ≡ Err r → ForValues (number_of j)
  pub write_filter : (source : List ℕ) (request : Request) (before after : List ℕ) (w : Try ℕ) (r : Refusal) → WriteFilterPromise source request before after w → w ≡ Err r
      → ForWriting (number_of w) × (result_unwrap_or w 0 ≡ 0) × (after ≡ before)
  pub answer_ping : (image : List ℕ) (caller : Caller) (filter before after : List ℕ) (a : Try Answered) (r : Refusal) → AnswerPingPromise image caller filter before after a → a ≡ Err r
      → ForPing (number_of a) × (answer_length a ≡ 0) × (answer_context a ≡ 0) × (answer_form a ≡ None) × (after ≡ before)
  pub read_reply : (reply : List ℕ) (form : Form) (v : ℕ) (x : Try Reading) (r : Refusal) → ReadReplyPromise reply form v x → x ≡ Err r
      → ForReply (number_of x) × (reading_length x ≡ 0) × (reading_fields x ≡ None)
  pub name_text : (reply : List ℕ) (start : ℕ) (t : NameText) (r : Refusal) → NameTextPromise reply start t → t.len ≡ Err r
      → ForName (number_of t.len) × (result_unwrap_or t.len 0 ≡ 0) × (text_given t ≡ [])
  pub read_message : (message : List ℕ) (m : Try Message) (r : Refusal) → ReadMessagePromise message m → m ≡ Err r → ForMessage (number_of m) × (value_of m ≡ None)
  pub write_message : (source : List ℕ) (message : Message) (before after : List ℕ) (w : Try ℕ) (r : Refusal) → WriteMessagePromise source message before after w → w ≡ Err r
      → ForMessageWriting (number_of w) × (result_unwrap_or w 0 ≡ 0) × (after ≡ before)
  pub answer_mailslot : (image : List ℕ) (caller : Caller) (message before after : List ℕ) (a : Try Answered) (r : Refusal) → AnswerMailslotPromise image caller message before after a
      → a ≡ Err r
      → ForMailslot (number_of a) × (answer_length a ≡ 0) × (answer_context a ≡ 0) × (answer_form a ≡ None) × (after ≡ before)
  -- it refuses nothing either, and gives each refusal a number of the documents
  pub number_of : (r : Refusal) (n : ℕ) → NumberOfPromise r n → ForAny n
