-- Demand 1 of the exported calls follows from that of the public calls: what is returned is done, or a refusal that demand 1 speaks of.
use Rattle.std.proofs.Common.{Ok, Err, None}
use mathlib.Core.Path.{◌≡◌, refl, sym, ap, ◌∙◌, subst}
use mathlib.Core.Bool.{true}
use mathlib.Core.List.{List}
use mathlib.Core.Logic.{◌⊎◌, inl, inr}
use Prim.Native.Nat.{ℕ}
use lib.Dec.{ltb}
use lib.ListN.{length}
use borrow.Author.Tests.{lt-ltb}
use Rattle.std.specs.Result.{result_unwrap_or}
use Rattle.answers.specs.declared.Form.{Form}
use Rattle.answers.specs.declared.Form.TheVariants.{Nt40, Response, Ex}
use Rattle.answers.specs.declared.Refusal.{Refusal}
use Rattle.answers.specs.Try.{Try, number_of}
use Rattle.answers.proofs.Laws.Written.{written_promised}
use Rattle.c_answer.specs.Answer.{answer_members}
use Rattle.c_calls.specs.Calls.{values_judged, filter_written, reply_read, message_written}
use Rattle.c_mailslot.specs.Message.{message_of, message_members}
use Rattle.c_reading.specs.Reading.{reading_members}
use Rattle.c_request.specs.Request.{request_given, taken_members}
use Rattle.demands.proofs.Laws.Demand1.{demand_1}
use Rattle.demands.specs.Calls.{WriteFilterPromise, WriteMessagePromise, AnswerPromise}
use Rattle.demands.specs.Demand1.{ForImage, ForFilter, ForValues, ForWriting, ForPing, ForReply, ForName, ForMessage, ForMessageWriting, ForMailslot}
use Rattle.filter_read.specs.Taken.{request_in}
use Rattle.filter_read.proofs.Laws.Taken.{take_apart_promised}
use Rattle.filter_read.proofs.Laws.Value.{judge_values_promised}
use Rattle.filter_read.specs.Value.{Ping, ping_from}
use Rattle.filter_write.specs.Write.{filter_for}
use Rattle.locator.specs.declared.Answered.{Answered}
use Rattle.locator.specs.Answer.{answer_by, answer_length, answer_context, answer_form}
use Rattle.locator.proofs.Laws.Answer.{answer_promised}
use Rattle.mailslot.specs.Message.{message_in, message_for}
use Rattle.mailslot_read.proofs.Laws.Refused.{promised}
use Rattle.mailslot_answer.specs.Ping.{mailslot_ping}
use Rattle.octets.specs.Buffer.{over}
use Rattle.octets.specs.Lists.{all}
use Rattle.octets.proofs.Laws.Buffer.{over_none}
use Rattle.reader_forms.proofs.Laws.Reading.{read_reply_promised}
use Rattle.reader_text.proofs.Laws.Text.{name-text_promised}
use Rattle.reader_text.specs.Text.{name_text_lem, name_text_as, text_octets}
use Rattle.table.specs.Table.{Table}
use Rattle.table_whole.specs.Judgement.{table_in, judged_as}
use Rattle.table_whole.proofs.Laws.Judgement.{judge_promised}
use Rattle.table_check.specs.Check.{check_of_lem}
use Rattle.c_promises.specs.Calls.{text_at, caller_at, answered_by, ExportedCheck, ExportedAnswer, ExportedNameText}
use Rattle.c_promises.specs.Demand1Exported.{DoneOr, zeros, Demand1Exported}

-- what is returned is done, or it is a refusal, of which demand 1 speaks
done_or : {A : Type 0} (Number : ℕ → Type 0) (Left : Type 0) (t : Try A) (r : ℕ) → r ≡ number_of t → ((x : Refusal) → t ≡ Err x → Number (number_of t) × Left) → DoneOr Number r Left
done_or Number Left (Ok a) r e demand = inl e
done_or Number Left (Err x) r e demand = let d = demand x refl in inr (subst Number (sym e) d.0, d.1)

-- a table's judgement leaves nothing behind
judged-image : (image : List ℕ) (t : Try (Unit {0})) (r : ℕ) → judged_as (table_in image) ≡ t → r ≡ number_of t → (r ≡ 0) ⊎ ForImage r
judged-image image (Ok u) r q e = inl e
judged-image image (Err x) r q e = inr (subst ForImage (sym e) (demand_1.judge image (Err x) x (judge_promised image _ (sym q)) refl))

-- of a call that writes, by what demand 1 says of it
written-octets : (Number : ℕ → Type 0) (Promise : Try ℕ → Type 0) (before after : List ℕ)
    → ((w : Try ℕ) (x : Refusal) → Promise w → w ≡ Err x → Number (number_of w) × (result_unwrap_or w 0 ≡ 0) × (after ≡ before))
    → (w : Try ℕ) (len r : ℕ) → Promise w → r ≡ number_of w → len ≡ result_unwrap_or w 0 → DoneOr Number r ((len ≡ 0) × (after ≡ before))
written-octets Number Promise before after demand w len r p e f =
    done_or Number ((len ≡ 0) × (after ≡ before)) w r e (λ x q. let d = demand w x p q in (d.0, (f ∙ d.1, d.2)))

-- of a call that answers, by its way in
module _ (way : List ℕ → Try Ping) (image client octets before after : List ℕ) where
  answered : (Number : ℕ → Type 0)
      → ((a : Try Answered) (x : Refusal) → AnswerPromise way image (caller_at client) octets before after a → a ≡ Err x
      → Number (number_of a) × (answer_length a ≡ 0) × (answer_context a ≡ 0) × (answer_form a ≡ None) × (after ≡ before))
      → (members : List ℕ) (r : ℕ) → ExportedAnswer way image client octets before after members r → DoneOr Number r ((members ≡ zeros 3) × (after ≡ before))
  answered Number demand members r p =
      done_or Number ((members ≡ zeros 3) × (after ≡ before)) (answered_by way image client octets before) r p.0
      (λ x q. let d = demand (answered_by way image client octets before) x kept q in (d.0, (p.1 ∙ ap answer_members q, d.4)))
    where
      kept : AnswerPromise way image (caller_at client) octets before after (answered_by way image client octets before)
      kept = record { returned = (answer_promised (answer_by way image (caller_at client) octets (length before)) _ (refl, p.2)).0; left = p.2 }

read : (reply members : List ℕ) (form : Form) (version : ℕ) (r : ℕ) → r ≡ number_of (reply_read form version reply) → members ≡ reading_members (reply_read form version reply) → DoneOr ForReply r (members ≡ zeros 54)
read reply members form version r e f =
    done_or ForReply (members ≡ zeros 54) (reply_read form version reply) r e
    (λ x q. ((demand_1.read_reply reply form version _ x (read_reply_promised reply form version _ refl) q).0, f ∙ ap reading_members q))

named : (reply text : List ℕ) (start len r : ℕ) → ExportedNameText reply start text len r → DoneOr ForName r ((text ≡ zeros 253) × (len ≡ 0))
named reply text start len r p = go (name_text_lem reply start) refl
  where
    go : (t : Try (List ℕ)) → name_text_lem reply start ≡ t → DoneOr ForName r ((text ≡ zeros 253) × (len ≡ 0))
    go (Ok octets) q = inl (p.0 ∙ ap (λ (t : Try (List ℕ)). number_of (name_text_as t).len) q)
    go (Err x) q =
        let d = demand_1.name_text reply start (text_at reply start) x (name-text_promised reply start _ refl) (ap (λ (t : Try (List ℕ)). (name_text_as t).len) q) in
        inr (subst ForName (sym p.0) d.0, (p.1 ∙ ap (λ t. over (text_octets t) (zeros 253)) q ∙ over_none (zeros 253), p.2 ∙ d.1))

-- a judgement has the number of the table
numbered : (t : Try Table) → number_of t ≡ number_of (judged_as t)
numbered (Err r) = refl
numbered (Ok a) = refl

checked : (octets check : List ℕ) → ExportedCheck octets check → (length check ≡ 2) × (all (λ (n : ℕ). ltb n 65536) check ≡ true)
unfolding all
checked octets check p =
    let d = demand_1.check_of octets (check_of_lem octets) refl in
    (ap length p, ap (all (λ (n : ℕ). ltb n 65536)) p ∙ rw (lt-ltb (check_of_lem octets).a 65536 d.1, lt-ltb (check_of_lem octets).b 65536 d.2) refl)

pub demand_1_exported : Demand1Exported
demand_1_exported =
    record {
      vinegarjar_judge = λ image r p. judged-image image (judged_as (table_in image)) r refl (p ∙ numbered (table_in image));
      vinegarjar_check = checked;
      vinegarjar_take_apart = λ filter request r p. done_or ForFilter (request ≡ zeros 24) (request_in filter) r p.0 (λ x q. (demand_1.take_apart filter _ x (take_apart_promised filter _ refl) q, p.1 ∙ ap taken_members q));
      vinegarjar_judge_values = λ filter request version r p. done_or ForValues (version ≡ 0) (values_judged filter request) r p.0 (λ x q. (demand_1.judge_values filter (request_given request) _ x (judge_values_promised filter (request_given request) _ refl) q, p.1 ∙ ap (λ (t : Try ℕ). result_unwrap_or t 0) q));
      vinegarjar_write_filter = λ source request before after len r p.
          written-octets ForWriting (WriteFilterPromise source (request_given request) before after) before after (demand_1.write_filter source (request_given request) before after)
          (filter_written source request before) len r (record { returned = (written_promised (filter_for source (request_given request) (length before)) _ (refl, p.2)).0; left = p.2 }) p.0 p.1;
      vinegarjar_answer_ping = λ image client filter before after. answered ping_from image client filter before after ForPing (demand_1.answer_ping image (caller_at client) filter before after);
      vinegarjar_read_mailslot = λ octets members r p. done_or ForMessage (members ≡ zeros 15) (message_in octets) r p.0 (λ x q. ((demand_1.read_message octets _ x (promised octets _ refl) q).0, p.1 ∙ ap message_members q));
      vinegarjar_write_mailslot = λ source members before after len r p.
          written-octets ForMessageWriting (WriteMessagePromise source (message_of members) before after) before after (demand_1.write_message source (message_of members) before after)
          (message_written source members before) len r (record { returned = (written_promised (message_for source (message_of members) (length before)) _ (refl, p.2)).0; left = p.2 }) p.0 p.1;
      vinegarjar_answer_mailslot = λ image client octets before after. answered mailslot_ping image client octets before after ForMailslot (demand_1.answer_mailslot image (caller_at client) octets before after);
      vinegarjar_read_nt40 = λ reply reading r p. read reply reading Nt40 0 r p.0 p.1;
      vinegarjar_read_response = λ reply reading r p. read reply reading Response 0 r p.0 p.1;
      vinegarjar_read_ex = λ version reply reading r p. read reply reading Ex version r p.0 p.1;
      vinegarjar_name_text = λ reply start text len r p. named reply text start len r p;
    }
