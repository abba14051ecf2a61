-- What an answer was made from, what its reply says, and of which answers the demands speak: of those over a table, of the whole's, and of an answering call's.
use Rattle.std.specs.Prelude.{◌≡◌, false, not, List, ℕ, length, take, Ok}
use Rattle.answers.specs.{declared.Form.Form, Try.Try}
use Rattle.filter_read.specs.Value.{Ping}
use Rattle.unicode_text.specs.UserName.{is_user_name}
use Rattle.locator.specs.{declared.Answered.Answered, Answer.Outcome, Answer.reply_to, Answer.answer_over, Answer.answer_by}
use Rattle.choose.specs.{Choose.reply_for, Judge.context_in}
use Rattle.octets.specs.Lists.{holds}
use Rattle.reply.specs.Reply.{Reply}
use Rattle.table.specs.{declared.Caller.Caller, declared.ContextNumber.ContextNumber, Context.Context, Table.Table}
use Rattle.table_whole.specs.Judgement.{table_in}
use Rattle.demands.specs.Calls.{AnswerPromise}

-- a table that passed 1 to 4: that of some image
pub record AcceptedTable (t : Table) : Type 0 where
  pub image : List ℕ
  pub judged : table_in image ≡ Ok t

-- a ping whose user 9 lets pass, if it has one
abbrev pub GoodPing : Ping → Type 0
GoodPing p = holds (λ name. not (is_user_name name)) p.user ≡ false

-- an answer over a table: the context used, and the reply in it
pub record Derivation (t : Table) (caller : Caller) (p : Ping) (room : ℕ) (a : Outcome) : Type 0 where
  pub context : Context
  pub used : context_in t p ≡ Ok context
  pub replied : reply_to t caller p room context ≡ Ok a

-- what the reply says: each slot's text, and the numbers
abbrev pub said : {t : Table} {caller : Caller} {p : Ping} {room : ℕ} {a : Outcome} → Derivation t caller p room a → Reply
said {t} {caller} {p} {a = a} d = reply_for t caller p d.context a.form

-- an answer whose reply is so: by its form, the version bits asked, what it says and its octets
abbrev pub ReplyIs : (Form → ℕ → Reply → List ℕ → Type 0) → Table → Caller → Ping → ℕ → Outcome → Type 0
ReplyIs P t caller p room a = (d : Derivation t caller p room a) × P a.form p.version (said d) a.octets

-- this holds of every answer over a table that passed, to a ping that came in any way and whose user 9 lets pass
abbrev pub EveryAnswerOver : (Table → Caller → Ping → ℕ → Outcome → Type 0) → Type 0
EveryAnswerOver P =
    (t : Table) (caller : Caller) (p : Ping) (room : ℕ) (a : Outcome)
    → AcceptedTable t → GoodPing p → answer_over t caller p room ≡ Ok a → P t caller p room a

-- a way in: what was received to the ping that it is. One that gives only pings whose user 9 lets pass
abbrev pub GivesGoodPings : (List ℕ → Try Ping) → Type 0
GivesGoodPings way = (octets : List ℕ) (p : Ping) → way octets ≡ Ok p → GoodPing p

-- the table of an image and the ping of what was received
pub record Parts (way : List ℕ → Try Ping) (image octets : List ℕ) : Type 0 where
  pub table : Table
  pub ping : Ping
  pub judged : table_in image ≡ Ok table
  pub pinged : way octets ≡ Ok ping

-- this holds of every answer, by any such way in, to a table image, caller, what was received and room
abbrev pub EveryAnswer : (Table → Caller → Ping → ℕ → Outcome → Type 0) → Type 0
EveryAnswer P =
    (way : List ℕ → Try Ping) → GivesGoodPings way
    → (image : List ℕ) (caller : Caller) (octets : List ℕ) (room : ℕ) (a : Outcome)
    → answer_by way image caller octets room ≡ Ok a → (parts : Parts way image octets) × P parts.table caller parts.ping room a

-- this holds of every reply that a call, answering by any such way in, leaves in the buffer lent to it: of its form, the version bits asked, what it says, its
-- octets and its length
abbrev pub EveryReply : (Form → ℕ → Reply → List ℕ → ℕ → Type 0) → Type 0
EveryReply P =
    (way : List ℕ → Try Ping) → GivesGoodPings way
    → (image : List ℕ) (caller : Caller) (octets before after : List ℕ) (a : Try Answered) (len : ℕ) (context : ContextNumber) (form : Form)
    → AnswerPromise way image caller octets before after a → a ≡ Ok (record { length = len; context = context; form = form })
    → (parts : Parts way image octets)
    × (d : Derivation parts.table caller parts.ping (length before) (record { context = context; form = form; octets = take len after }))
    × P form parts.ping.version (said d) (take len after) len
