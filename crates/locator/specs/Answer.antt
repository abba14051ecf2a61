-- Document 01, "Answer numbers": the answer in three layers, and the whole as one function of table image, caller, what was received and room. The first layer,
-- the table of an image (1 to 4), is `table_in`; the second, the way in, makes a ping of what was received: of a filter (5 to 9) it is `ping_from`.
use Rattle.octets.specs.{Buffer.over, Label.labels, Lists.any, Lists.holds}
use Rattle.std.specs.Prelude.{◌≡◌, Bool, true, false, ◌&&◌, List, [], ℕ, eqb, ltb, length, Ok, Err, Option, None, Some, option_map, unwrap_or}
use Rattle.answers.specs.declared.Form.{Form}
use Rattle.answers.specs.declared.Form.TheVariants.{Nt40, Response, Ex}
use Rattle.answers.specs.declared.Refusal.TheVariants.{UserLabelEmpty, NoRoom}
use Rattle.answers.specs.Try.{Try, refused_if, ◌>>=◌, number_of, value_of}
use Rattle.filter_read.specs.Value.{Ping, ping_from}
use Rattle.reply.specs.Reply.{octets_in}
use Rattle.table.specs.{declared.Caller.Caller, declared.ContextNumber.ContextNumber, Context.Context, Table.Table}
use Rattle.table_whole.specs.Judgement.{table_in}
use Rattle.locator.specs.declared.Answered.{Answered}
use Rattle.choose.specs.{Choose.form_of, Choose.reply_for, Judge.context_in}

abbrev pub is_ex : Form → Bool
is_ex Nt40 = false
is_ex Response = false
is_ex Ex = true

-- 18: EX form, User not empty, and some part between dots empty
unfoldable pub wrong_user : Form → Ping → Bool
wrong_user form p = is_ex form && holds (λ name. any (λ l. eqb (length l) 0) (labels name)) p.user

-- an answer: the context used, the form and the reply's octets
pub record Outcome : Type 0 where
  pub context : ContextNumber
  pub form : Form
  pub octets : List ℕ

unfoldable pub reply_to : Table → Caller → Ping → ℕ → Context → Try Outcome
reply_to t caller p room c =
    let form = form_of t.server p.version in
    let octets = octets_in form (reply_for t caller p c form) in
    refused_if (wrong_user form p) UserLabelEmpty
    (refused_if (ltb room (length octets)) NoRoom (Ok (record { context = c.number; form = form; octets = octets })))

-- 11 to 19: the answer to a ping over a table, however either was come by
unfoldable pub answer_over : Table → Caller → Ping → ℕ → Try Outcome
answer_over t caller p room = do
  c ← context_in t p
  reply_to t caller p room c

-- the numbers are judged in their order, each over the whole table or all that was received
unfoldable pub answer_by : (List ℕ → Try Ping) → List ℕ → Caller → List ℕ → ℕ → Try Outcome
answer_by way image caller octets room = do
  t ← table_in image
  p ← way octets
  answer_over t caller p room

-- the answer to a filter
abbrev pub answer_to : List ℕ → Caller → List ℕ → ℕ → Try Outcome
answer_to = answer_by ping_from

-- the answer as the call returns it
abbrev pub answer_as : Try Outcome → Try Answered
answer_as (Err r) = Err r
answer_as (Ok a) = Ok (record { length = length a.octets; context = a.context; form = a.form })

-- the octets that it writes: none where it refuses
abbrev pub octets_written : Try Outcome → List ℕ
octets_written (Err r) = []
octets_written (Ok a) = a.octets

-- document 01's values of an answer: with a refusal length 0, context 0 and no form
abbrev pub answer_length : Try Answered → ℕ
answer_length (Err r) = 0
answer_length (Ok a) = a.length

abbrev pub answer_context : Try Answered → ℕ
answer_context (Err r) = 0
answer_context (Ok a) = a.context.0

abbrev pub answer_form : Try Answered → Option Form
answer_form (Err r) = None
answer_form (Ok a) = Some a.form

-- an answer with the number and the values of an outcome
pub record AnswerOf (o : Try Outcome) (r : Try Answered) : Type 0 where
  pub same : r ≡ answer_as o
  pub numbered : number_of r ≡ number_of o
  pub sized : answer_length r ≡ length (octets_written o)
  pub used : answer_context r ≡ unwrap_or (option_map (λ a. a.context.0) (value_of o)) 0
  pub formed : answer_form r ≡ option_map (λ a. a.form) (value_of o)

-- what a call that answers promises, by its way in, to return and to leave in the buffer
abbrev pub AnswerReturns : (List ℕ → Try Ping) → List ℕ → Caller → List ℕ → List ℕ → Try Answered → Type 0
AnswerReturns way image caller octets before = AnswerOf (answer_by way image caller octets (length before))

abbrev pub AnswerLeaves : (List ℕ → Try Ping) → List ℕ → Caller → List ℕ → List ℕ → List ℕ → Type 0
AnswerLeaves way image caller octets before after = after ≡ over (octets_written (answer_by way image caller octets (length before))) before

-- what `answer_ping` promises
abbrev pub AnswerPingReturns : List ℕ → Caller → List ℕ → List ℕ → Try Answered → Type 0
AnswerPingReturns = AnswerReturns ping_from

abbrev pub AnswerPingLeaves : List ℕ → Caller → List ℕ → List ℕ → List ℕ → Type 0
AnswerPingLeaves = AnswerLeaves ping_from
