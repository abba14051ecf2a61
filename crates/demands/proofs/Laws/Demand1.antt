-- Demand 1 is proved: each definition names the reasons for which it refuses, and what follows it names its own.
use Rattle.std.proofs.Common.{Ok, Err, Option, None, Some}
use mathlib.Core.Path.{◌≡◌, refl, sym, ap, ◌∙◌, subst}
use mathlib.Core.Bool.{not}
use mathlib.Core.List.{List, [], ◌∷◌}
use Prim.Native.Nat.{ℕ, ◌<◌}
use native.Mathlib.Omega.{arith}
use lib.ListN.{length, take}
use Rattle.answers.specs.declared.Refusal.{Refusal}
use Rattle.std.specs.Result.{result_unwrap_or}
use Rattle.answers.specs.declared.Refusal.TheVariants.{ImageLength, BlockCheck, BlockLayout, TableWhole}
use Rattle.answers.specs.declared.Refusal.TheVariants.{FilterLength, FilterShape, UnknownClause, DuplicateClause, ClauseValue}
use Rattle.answers.specs.declared.Refusal.TheVariants.{GuidLength, GuidNotHeld, DnsNameEmpty, DnsNameNotHeld}
use Rattle.answers.specs.declared.Refusal.TheVariants.{SidShape, SidNotHeld, SidOfAnother, UserLabelEmpty, NoRoom}
use Rattle.answers.specs.declared.Refusal.TheVariants.{ReplyCut, ReplyOpcode, ReplyText, ReplyFixed, ReplyLeftOver, MailslotShape}
use Rattle.answers.specs.Refusal.{number}
use Rattle.answers.specs.Try.{Try, ◌>>=◌, number_of, value_of}
use Rattle.choose.specs.Judge.{context_used, or_whole, context_in}
use Rattle.filter_position.specs.declared.position.RawClause.{RawClause}
use Rattle.filter.specs.declared.request.Request.{Request}
use Rattle.filter_position.specs.Filter.{clauses_of}
use Rattle.filter_read.specs.Taken.{judged_clauses, request_in}
use Rattle.filter_read.specs.Value.{Ping, ping_in, ping_from, judged_values}
use Rattle.answers.specs.Written.{written_as, written_octets}
use Rattle.filter_write.specs.Write.{filter_for}
use Rattle.locator.specs.declared.Answered.{Answered}
use Rattle.locator.specs.Answer.{Outcome, reply_to, answer_over, answer_by, answer_to, answer_as, octets_written, answer_length, answer_context, answer_form}
use Rattle.mailslot.specs.declared.message.Message.{Message}
use Rattle.mailslot.specs.Message.{good_message, as_shape, read_fields, message_in, message_for}
use Rattle.mailslot_answer.specs.Ping.{message_ping, mailslot_ping}
use Rattle.octets.specs.Buffer.{over}
use Rattle.octets.proofs.Laws.Buffer.{over_none}
use Rattle.octets.specs.Lists.{any}
use Rattle.reader.specs.Name.{read_name}
use Rattle.reader.specs.Reader.{read_in}
use Rattle.reader_forms.specs.declared.reading.Reading.{Reading}
use Rattle.reader_forms.specs.Reading.{reading_as, reading_length, reading_fields}
use Rattle.reader_text.specs.declared.NameText.{NameText}
use Rattle.reader_text.specs.Text.{name_text_lem}
use Rattle.table.specs.declared.Caller.{Caller}
use Rattle.table.specs.Context.{Context}
use Rattle.table.specs.Table.{Table}
use Rattle.table_check.specs.declared.check.Check.{Check}
use Rattle.table_check.specs.Check.{grow, grown, check_of_lem}
use Rattle.table_whole.specs.Judgement.{table_in, judged_as}
use Rattle.demands.specs.Demand1.{ForImage, ForFilter, ForValues, ForWriting, ForPing, ForReply, ForName, ForMessage, ForMessageWriting, ForMailslot, Demand1, ForAny}
use Rattle.demands.proofs.Laws.Only.{Only, Any, only_if, only_then, only-returned}
use Rattle.demands.proofs.Laws.Reading.{form_read, name-only, reading_only}

-- a refusal whose number is so
abbrev By : (ℕ → Type 0) → Refusal → Type 0
By F r = F (number r)

-- ---- the reasons of each definition

module _ (P : Refusal → Type 0) where
  table-only : P ImageLength → P BlockCheck → P BlockLayout → P TableWhole → (image : List ℕ) → Only P Any (table_in image)
  unfolding table_in
  table-only a b c d image = search (only_if P)

  request-only : P FilterLength → P FilterShape → P UnknownClause → P DuplicateClause → (s : List ℕ) → Only P Any (request_in s)
  unfolding request_in
  request-only a b c d s = search (only_if P, clauses (clauses_of s))
    where
      clauses : (o : Option (List RawClause)) → Only P Any (judged_clauses s o)
      clauses None = b
      clauses (Some fs) = search (only_if P)

  ping-only : P ClauseValue → (s : List ℕ) (r : Request) → Only P Any (ping_in s r)
  unfolding ping_in
  ping-only a s r = search (only_if P)

  filter-only : P FilterShape → P FilterLength → P NoRoom → (source : List ℕ) (r : Request) (room : ℕ) → Only P Any (filter_for source r room)
  unfolding filter_for
  filter-only a b c source r room = search (only_if P)

  shape_only : {A : Type 0} → P MailslotShape → (t : Try A) → Only P Any (as_shape t)
  shape_only a (Err r) = a
  shape_only a (Ok m) = tt

  message_only : P MailslotShape → (s : List ℕ) → Only P Any (message_in s)
  unfolding message_in
  message_only a s = only_then P Any (as_shape (read_fields s)) _ (shape_only a (read_fields s)) (λ m. only_if P Any (not (good_message s m)) MailslotShape (Ok m) a tt)

  message_written-only : P MailslotShape → P NoRoom → (source : List ℕ) (m : Message) (room : ℕ) → Only P Any (message_for source m room)
  unfolding message_for
  message_written-only a b source m room = search (only_if P)

  found-only : P TableWhole → (o : Option Context) → Only P Any (or_whole o)
  found-only e None = e
  found-only e (Some c) = tt

  -- 15 to 17: a message names no context
  message_context-only : P TableWhole → P SidShape → P SidNotHeld → P SidOfAnother → (t : Table) (s : List ℕ) (m : Message) → Only P Any (context_in t (message_ping s m))
  unfolding context_in
  message_context-only e f g h t s m =
      only_then P Any (or_whole (context_used t (message_ping s m))) _ (found-only e (context_used t (message_ping s m))) (λ c. search (only_if P))

  context-only : P GuidLength → P GuidNotHeld → P DnsNameEmpty → P DnsNameNotHeld → P TableWhole → P SidShape → P SidNotHeld → P SidOfAnother
      → (t : Table) (p : Ping) → Only P Any (context_in t p)
  unfolding context_in
  context-only a b c d e f g h t p = search (only_if P, only_then P, found-only e (context_used t p)) depth 9

  reply_only : P UserLabelEmpty → P NoRoom → (t : Table) (caller : Caller) (p : Ping) (room : ℕ) (c : Context) → Only P Any (reply_to t caller p room c)
  unfolding reply_to
  reply_only a b t caller p room c = search (only_if P)

answer_only : (image : List ℕ) (caller : Caller) (filter : List ℕ) (room : ℕ) → Only (By ForPing) Any (answer_to image caller filter room)
unfolding answer_by ping_from answer_over
answer_only image caller filter room =
    only_then (By ForPing) Any (table_in image) _ (table-only (By ForPing) refl refl refl refl image) (λ t.
    only_then (By ForPing) Any (ping_from filter) _ (only_then (By ForPing) Any (request_in filter) _ (request-only (By ForPing) refl refl refl refl filter) (ping-only (By ForPing) refl filter)) (λ p.
    only_then (By ForPing) Any (context_in t p) _ (context-only (By ForPing) refl refl refl refl refl refl refl refl t p) (reply_only (By ForPing) refl refl t caller p room)))

mailslot-only : (image : List ℕ) (caller : Caller) (message : List ℕ) (room : ℕ) → Only (By ForMailslot) Any (answer_by mailslot_ping image caller message room)
unfolding answer_by mailslot_ping answer_over
mailslot-only image caller message room =
    only_then (By ForMailslot) Any (table_in image) _ (table-only (By ForMailslot) refl refl refl refl image) (λ t. by (message_in message) t (message_only (By ForMailslot) refl message))
  where
    by : (o : Try Message) (t : Table) → Only (By ForMailslot) Any o → Only (By ForMailslot) Any (o >>= (λ m. Ok (message_ping message m)) >>= λ p. context_in t p >>= reply_to t caller p room)
    by (Err r) t h = h
    by (Ok m) t h =
        let p : Ping = message_ping message m in
        only_then (By ForMailslot) Any (context_in t p) _ (message_context-only (By ForMailslot) refl refl refl refl t message m) (reply_only (By ForMailslot) refl refl t caller p room)

-- ---- the calls

-- every refusal has a number of document 01
number_known : (r : Refusal) → ForAny (number r)
number_known ImageLength = refl
number_known BlockCheck = refl
number_known BlockLayout = refl
number_known TableWhole = refl
number_known FilterLength = refl
number_known FilterShape = refl
number_known UnknownClause = refl
number_known DuplicateClause = refl
number_known ClauseValue = refl
number_known GuidLength = refl
number_known GuidNotHeld = refl
number_known DnsNameEmpty = refl
number_known DnsNameNotHeld = refl
number_known SidShape = refl
number_known SidNotHeld = refl
number_known SidOfAnother = refl
number_known UserLabelEmpty = refl
number_known NoRoom = refl
number_known ReplyCut = refl
number_known ReplyOpcode = refl
number_known ReplyText = refl
number_known ReplyFixed = refl
number_known ReplyLeftOver = refl
number_known MailslotShape = refl

-- two sums of 16 bits each
abbrev Sums : Check → Type 0
Sums c = (c.a < 65536) × (c.b < 65536)

sums_grown : (c : Check) (octets : List ℕ) → Sums c → Sums (grown c octets)
unfolding grown
sums_grown c [] h = h
sums_grown c (x ∷ xs) h = sums_grown (grow c x) xs (omega arith, omega arith)

pub demand_1 : Demand1
unfolding any name_text_lem check_of_lem
demand_1 =
    record {
      check_of = λ octets c p. let s = subst Sums (sym p) (sums_grown (record { a = 1; b = 0 }) octets (omega arith, omega arith)) in (p, s.0, s.1);
      judge =
          λ image j r p e.
          subst (λ (x : Try (Unit {0})). ForImage (number_of x)) (sym e) (only-returned judged_as (λ q. refl) (λ a. (_, refl)) (By ForImage) Any (table_in image) (table-only (By ForImage) refl refl refl refl image) j r p.same e).0;
      take_apart =
          λ filter t r p e.
          subst (λ (x : Try Request). ForFilter (number_of x)) (sym e) (only-returned (λ (x : Try Request). x) (λ q. refl) (λ a. (_, refl)) (By ForFilter) Any (request_in filter) (request-only (By ForFilter) refl refl refl refl filter) t r p.same e).0;
      judge_values =
          λ filter request j r p e.
          subst (λ (x : Try ℕ). ForValues (number_of x)) (sym e) (only-returned judged_values (λ q. refl) (λ a. (_, refl)) (By ForValues) Any (ping_in filter request) (ping-only (By ForValues) refl filter request) j r p.same e).0;
      write_filter =
          λ source request before after w r p e.
          let t : Try (List ℕ) = filter_for source request (length before) in
          let o = only-returned written_as (λ q. refl) (λ a. (_, refl)) (By ForWriting) Any t (filter-only (By ForWriting) refl refl refl source request (length before)) w r p.returned.same e in
          (subst (λ (x : Try ℕ). ForWriting (number_of x)) (sym e) o.0, ap (λ (x : Try ℕ). result_unwrap_or x 0) e, p.left ∙ ap (λ (x : Try (List ℕ)). over (written_octets x) before) o.1 ∙ over_none before);
      answer_ping =
          λ image caller filter before after a r p e.
          let t : Try Outcome = answer_to image caller filter (length before) in
          let o = only-returned answer_as (λ q. refl) (λ a. (_, refl)) (By ForPing) Any t (answer_only image caller filter (length before)) a r p.returned.same e in
          (subst (λ (x : Try Answered). ForPing (number_of x)) (sym e) o.0, ap answer_length e, ap answer_context e, ap answer_form e, p.left ∙ ap (λ (x : Try Outcome). over (octets_written x) before) o.1 ∙ over_none before);
      read_reply =
          λ reply form v x r p e.
          let o = only-returned (reading_as reply) (λ q. refl) (λ a. (_, refl)) (By ForReply) (λ f. form_read f ≡ form) (read_in form v reply) (reading_only (By ForReply) refl refl refl refl refl form v reply) x r p.same e in
          (subst (λ (x : Try Reading). ForReply (number_of x)) (sym e) o.0, ap reading_length e, ap reading_fields e);
      name_text =
          λ reply start t r p e.
          let o = only-returned written_as (λ q. refl) (λ a. (_, refl)) (By ForName) Any (name_text_lem reply start)
          (only_then (By ForName) Any (read_name reply start) _ (name-only (By ForName) refl refl reply start) (λ f. tt)) t.len r (ap (λ (x : NameText). x.len) p.same) e in
          (subst (λ (x : Try ℕ). ForName (number_of x)) (sym e) o.0, ap (λ (l : Try ℕ). result_unwrap_or l 0) e, ap (λ (l : Try ℕ). take (result_unwrap_or l 0) t.octets) e);
      read_message =
          λ message m r p e.
          let o = only-returned (λ (x : Try Message). x) (λ q. refl) (λ a. (_, refl)) (By ForMessage) Any (message_in message) (message_only (By ForMessage) refl message) m r p.same e in
          (subst (λ (x : Try Message). ForMessage (number_of x)) (sym e) o.0, ap value_of e);
      write_message =
          λ source message before after w r p e.
          let t : Try (List ℕ) = message_for source message (length before) in
          let o = only-returned written_as (λ q. refl) (λ a. (_, refl)) (By ForMessageWriting) Any t (message_written-only (By ForMessageWriting) refl refl source message (length before)) w r p.returned.same e in
          (subst (λ (x : Try ℕ). ForMessageWriting (number_of x)) (sym e) o.0, ap (λ (x : Try ℕ). result_unwrap_or x 0) e, p.left ∙ ap (λ (x : Try (List ℕ)). over (written_octets x) before) o.1 ∙ over_none before);
      answer_mailslot =
          λ image caller message before after a r p e.
          let t : Try Outcome = answer_by mailslot_ping image caller message (length before) in
          let o = only-returned answer_as (λ q. refl) (λ a. (_, refl)) (By ForMailslot) Any t (mailslot-only image caller message (length before)) a r p.returned.same e in
          (subst (λ (x : Try Answered). ForMailslot (number_of x)) (sym e) o.0, ap answer_length e, ap answer_context e, ap answer_form e, p.left ∙ ap (λ (x : Try Outcome). over (octets_written x) before) o.1 ∙ over_none before);
      number_of = λ r n p. subst ForAny (sym p) (number_known r);
    }
