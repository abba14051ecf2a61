-- The answer, by what was found on the way to it.
use Rattle.std.proofs.Common.{Ok, Err, option_map, unwrap_or}
use mathlib.Core.Path.{◌≡◌, refl, sym, ap, ◌∙◌}
use mathlib.Core.Bool.{true, false}
use mathlib.Core.List.{List}
use Prim.Native.Nat.{ℕ, ◌≤◌, ◌<◌}
use borrow.Author.Tests.{lt-ltb, le-ltb}
use lib.ListN.{length}
use Rattle.answers.specs.declared.Form.{Form}
use Rattle.answers.specs.declared.Refusal.{Refusal}
use Rattle.answers.specs.declared.Refusal.TheVariants.{UserLabelEmpty, NoRoom}
use Rattle.answers.specs.Try.{Try, ◌>>=◌, number_of, value_of}
use Rattle.choose.specs.Choose.{form_of, reply_for}
use Rattle.choose.specs.Judge.{context_in}
use Rattle.filter_read.specs.Value.{Ping}
use Rattle.octets.specs.Buffer.{over}
use Rattle.octets.proofs.Laws.Buffer.{over_none}
use Rattle.reply.specs.Reply.{Reply, octets_in}
use Rattle.table.specs.declared.Caller.{Caller}
use Rattle.table.specs.Context.{Context}
use Rattle.table.specs.Table.{Table}
use Rattle.table_whole.specs.Judgement.{table_in}
use Rattle.locator.specs.declared.Answered.{Answered}
use Rattle.locator.specs.Answer.{Outcome, wrong_user, reply_to, answer_over, answer_by, answer_as, octets_written, answer_length, answer_context, answer_form, AnswerOf}

-- a refusal, and the buffer as it was
pub refusal-given : (a : Try Outcome) (x : Refusal) (d : List ℕ) → a ≡ Err x → (Err x ≡ answer_as a) × (d ≡ over (octets_written a) d)
refusal-given a x d e = (ap answer_as (sym e), sym (over_none d) ∙ ap (λ (o : Try Outcome). over (octets_written o) d) (sym e))

-- 18 and 19, for the form and the reply chosen
module _ (t : Table) (caller : Caller) (p : Ping) (room : ℕ) (c : Context) (form : Form) (r : Reply)
    (chosen : form ≡ form_of t.server p.version) (said : r ≡ reply_for t caller p c form) where
  said-octets : octets_in form r ≡ octets_in (form_of t.server p.version) (reply_for t caller p c (form_of t.server p.version))
  said-octets = ap (octets_in form) said ∙ ap (λ (f : Form). octets_in f (reply_for t caller p c f)) chosen

  pub user-refused : true ≡ wrong_user form p → reply_to t caller p room c ≡ Err UserLabelEmpty
  unfolding reply_to
  user-refused e = rw (reply_to, ← chosen, ← e)

  pub room_refused : false ≡ wrong_user form p → room < length (octets_in form r) → reply_to t caller p room c ≡ Err NoRoom
  unfolding reply_to
  room_refused e h = rw (reply_to, ← said-octets, ← chosen, ← e, lt-ltb room (length (octets_in form r)) h)

  pub reply_given : false ≡ wrong_user form p → length (octets_in form r) ≤ room → reply_to t caller p room c ≡ Ok (record { context = c.number; form = form; octets = octets_in form r })
  unfolding reply_to
  reply_given e h = rw (reply_to, ← said-octets, ← chosen, ← e, le-ltb room (length (octets_in form r)) h)

-- the context used, or why there is none
module _ (t : Table) (caller : Caller) (p : Ping) (room : ℕ) where
  pub over-used : (c : Context) → context_in t p ≡ Ok c → answer_over t caller p room ≡ reply_to t caller p room c
  unfolding answer_over
  over-used c e = ap (λ (x : Try Context). x >>= reply_to t caller p room) e

  pub over-refused : (x : Refusal) → context_in t p ≡ Err x → answer_over t caller p room ≡ Err x
  unfolding answer_over
  over-refused x e = ap (λ (y : Try Context). y >>= reply_to t caller p room) e

-- the table and the ping, or why there is none, whatever the way in
module _ (way : List ℕ → Try Ping) (image : List ℕ) (caller : Caller) (octets : List ℕ) (room : ℕ) where
  -- what follows a table
  abbrev next : Table → Try Outcome
  next t = way octets >>= λ p. answer_over t caller p room

  pub table-refused : (x : Refusal) → table_in image ≡ Err x → answer_by way image caller octets room ≡ Err x
  unfolding answer_by
  table-refused x e = ap (λ (y : Try Table). y >>= next) e

  pub ping-refused : (t : Table) (x : Refusal) → table_in image ≡ Ok t → way octets ≡ Err x → answer_by way image caller octets room ≡ Err x
  unfolding answer_by
  ping-refused t x e f = ap (λ (y : Try Table). y >>= next) e ∙ ap (λ (y : Try Ping). y >>= λ p. answer_over t caller p room) f

  pub ping_answered : (t : Table) (p : Ping) → table_in image ≡ Ok t → way octets ≡ Ok p → answer_by way image caller octets room ≡ answer_over t caller p room
  unfolding answer_by
  ping_answered t p e f = ap (λ (y : Try Table). y >>= next) e ∙ ap (λ (y : Try Ping). y >>= λ q. answer_over t caller q room) f

-- an answer carried over to what it is the answer of
pub answer_of_lem : (a b : Try Outcome) (r : Try Answered) (d e : List ℕ) → b ≡ a → (r ≡ answer_as a) × (e ≡ over (octets_written a) d) → (r ≡ answer_as b) × (e ≡ over (octets_written b) d)
answer_of_lem a b r d e q h = (h.0 ∙ ap answer_as (sym q), h.1 ∙ ap (λ (o : Try Outcome). over (octets_written o) d) (sym q))

-- what is promised to be returned, beside what is left
pub answer_promised : {Left : Type 0} (o : Try Outcome) (r : Try Answered) → (r ≡ answer_as o) × Left → AnswerOf o r × Left
answer_promised o r (e, left) =
    (record { same = e; numbered = ap number_of e ∙ numbers o; sized = ap answer_length e ∙ sizes o; used = ap answer_context e ∙ uses o; formed = ap answer_form e ∙ forms o }, left)
  where
    numbers : (o : Try Outcome) → number_of (answer_as o) ≡ number_of o
    numbers (Err x) = refl
    numbers (Ok a) = refl

    sizes : (o : Try Outcome) → answer_length (answer_as o) ≡ length (octets_written o)
    sizes (Err x) = refl
    sizes (Ok a) = refl

    uses : (o : Try Outcome) → answer_context (answer_as o) ≡ unwrap_or (option_map (λ (a : Outcome). a.context.0) (value_of o)) 0
    uses (Err x) = refl
    uses (Ok a) = refl

    forms : (o : Try Outcome) → answer_form (answer_as o) ≡ option_map (λ (a : Outcome). a.form) (value_of o)
    forms (Err x) = refl
    forms (Ok a) = refl
