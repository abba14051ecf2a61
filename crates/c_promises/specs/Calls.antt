-- What the exported calls promise, in the definitions that the public calls promise: the number returned, and what is left in every struct and buffer lent. A struct is the
-- list of its members, and C's client is four octets.
use Rattle.std.specs.Prelude.{◌≡◌, List, ℕ, length}
use Rattle.std.specs.Result.{result_unwrap_or}
use Rattle.answers.specs.{declared.Form.Form, Try.Try, Try.number_of}
use Rattle.filter_read.specs.{Taken.request_in, Value.Ping, Value.ping_from}
use Rattle.filter_write.specs.Write.{WriteFilterLeaves}
use Rattle.locator.specs.declared.Answered.{Answered}
use Rattle.locator.specs.Answer.{answer_by, answer_as, AnswerLeaves}
use Rattle.mailslot.specs.Message.{message_in}
use Rattle.mailslot_answer.specs.Ping.{mailslot_ping}
use Rattle.mailslot_write.specs.Write.{WriteMessageLeaves}
use Rattle.reader_text.specs.declared.NameText.{NameText}
use Rattle.reader_text.specs.Text.{name_text_lem, name_text_as}
use Rattle.table.specs.declared.Caller.{Caller}
use Rattle.table_check.specs.Check.{check_of_lem}
use Rattle.table_whole.specs.Judgement.{table_in}
use Rattle.c_answer.specs.Answer.{answer_members}
use Rattle.c_calls.specs.Calls.{check_members, values_judged, filter_written, reply_read, message_written}
use Rattle.c_mailslot.specs.Message.{message_of, message_members}
use Rattle.c_reading.specs.Reading.{reading_members}
use Rattle.c_request.specs.Request.{request_given, taken_members}

abbrev pub text_at : List ℕ → ℕ → NameText
text_at reply start = name_text_as (name_text_lem reply start)

abbrev pub caller_at : List ℕ → Caller
caller_at client = record { address = client }

-- what is answered, by its way in
abbrev pub answered_by : (List ℕ → Try Ping) → List ℕ → List ℕ → List ℕ → List ℕ → Try Answered
answered_by way image client octets before = answer_as (answer_by way image (caller_at client) octets (length before))

-- a promise each: of what was passed, what is left, and the number `r`

abbrev pub ExportedJudge : (image : List ℕ) (r : ℕ) → Type 0
ExportedJudge image r = r ≡ number_of (table_in image)

abbrev pub ExportedCheck : (octets check : List ℕ) → Type 0
ExportedCheck octets check = check ≡ check_members (check_of_lem octets)

abbrev pub ExportedTakeApart : (filter request : List ℕ) (r : ℕ) → Type 0
ExportedTakeApart filter request r = (r ≡ number_of (request_in filter)) × (request ≡ taken_members (request_in filter))

abbrev pub ExportedJudgeValues : (filter request : List ℕ) (version r : ℕ) → Type 0
ExportedJudgeValues filter request version r =
    (r ≡ number_of (values_judged filter request)) × (version ≡ result_unwrap_or (values_judged filter request) 0)

abbrev pub ExportedWriteFilter : (source request before after : List ℕ) (len r : ℕ) → Type 0
ExportedWriteFilter source request before after len r =
    (r ≡ number_of (filter_written source request before))
    × (len ≡ result_unwrap_or (filter_written source request before) 0)
    × WriteFilterLeaves source (request_given request) before after

-- of a call that answers, by its way in
abbrev pub ExportedAnswer : (List ℕ → Try Ping) → (image client octets before after answer : List ℕ) (r : ℕ) → Type 0
ExportedAnswer way image client octets before after answer r =
    (r ≡ number_of (answered_by way image client octets before))
    × (answer ≡ answer_members (answered_by way image client octets before))
    × AnswerLeaves way image (caller_at client) octets before after

abbrev pub ExportedAnswerPing : (image client filter before after answer : List ℕ) (r : ℕ) → Type 0
ExportedAnswerPing = ExportedAnswer ping_from

abbrev pub ExportedAnswerMailslot : (image client message before after answer : List ℕ) (r : ℕ) → Type 0
ExportedAnswerMailslot = ExportedAnswer mailslot_ping

abbrev pub ExportedReadMailslot : (message members : List ℕ) (r : ℕ) → Type 0
ExportedReadMailslot message members r = (r ≡ number_of (message_in message)) × (members ≡ message_members (message_in message))

abbrev pub ExportedWriteMailslot : (source members before after : List ℕ) (len r : ℕ) → Type 0
ExportedWriteMailslot source members before after len r =
    (r ≡ number_of (message_written source members before))
    × (len ≡ result_unwrap_or (message_written source members before) 0)
    × WriteMessageLeaves source (message_of members) before after

abbrev pub ExportedRead : Form → (version : ℕ) (reply reading : List ℕ) (r : ℕ) → Type 0
ExportedRead form version reply reading r =
    (r ≡ number_of (reply_read form version reply)) × (reading ≡ reading_members (reply_read form version reply))

abbrev pub ExportedNameText : (reply : List ℕ) (start : ℕ) (text : List ℕ) (len r : ℕ) → Type 0
ExportedNameText reply start text len r =
    (r ≡ number_of (text_at reply start).len) × (text ≡ (text_at reply start).octets) × (len ≡ result_unwrap_or (text_at reply start).len 0)
