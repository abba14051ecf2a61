-- What holds of every answer over a table holds of every answer of the whole, and so of every reply that the answering call leaves.
use Rattle.std.proofs.Common.{Ok, Err}
use mathlib.Core.Path.{◌≡◌, refl, sym, ap, ◌∙◌, subst}
use mathlib.Core.List.{List}
use Prim.Native.Nat.{ℕ}
use lib.ListN.{length, take}
use Rattle.answers.specs.declared.Form.{Form}
use Rattle.answers.specs.Try.{Try}
use Rattle.answers.proofs.Laws.Try.{good-same, good_then, refused_not_good}
use Rattle.filter_read.specs.Value.{Ping}
use Rattle.locator.specs.declared.Answered.{Answered}
use Rattle.locator.specs.Answer.{Outcome, answer_over, answer_by, answer_as, octets_written}
use Rattle.choose.specs.Judge.{context_in}
use Rattle.octets.specs.Buffer.{over}
use Rattle.octets.proofs.Laws.Buffer.{over_front}
use Rattle.reply.specs.Reply.{Reply}
use Rattle.table.specs.declared.Caller.{Caller}
use Rattle.table.specs.Table.{Table}
use Rattle.table_whole.specs.Judgement.{table_in}
use Rattle.demands.specs.Derivation.{Derivation, said, ReplyIs, EveryAnswerOver, Parts, EveryAnswer, EveryReply}

pub derived : (t : Table) (caller : Caller) (p : Ping) (room : ℕ) (a : Outcome) → answer_over t caller p room ≡ Ok a → Derivation t caller p room a
unfolding answer_over
derived t caller p room a e =
    let c = good_then (context_in t p) _ a e in
    record { context = c.0; used = c.1; replied = c.2 }

pub every_answer : (P : Table → Caller → Ping → ℕ → Outcome → Type 0) → EveryAnswerOver P → EveryAnswer P
unfolding answer_by
every_answer P over way pings image caller octets room a e =
    let t = good_then (table_in image) _ a e in
    let p = good_then (way octets) _ a t.2 in (
      record { table = t.0; ping = p.0; judged = t.1; pinged = p.1 },
      over t.0 caller p.0 room a (record { image = image; judged = t.1 }) (pings octets p.0 p.1) p.2,
    )

pub every_reply : (P : Form → ℕ → Reply → List ℕ → Type 0) (Q : Form → ℕ → Reply → List ℕ → ℕ → Type 0)
    → EveryAnswer (ReplyIs P)
    → ((form : Form) (v : ℕ) (r : Reply) (s : List ℕ) → P form v r s → Q form v r s (length s)) → EveryReply Q
every_reply P Q every weaken way pings image caller octets before after a len context form promise answered = by (answer_by way image caller octets (length before)) refl
  where
    whole : Outcome
    whole = record { context = context; form = form; octets = take len after }

    given : Answered
    given = record { length = len; context = context; form = form }

    Due : Type 0
    Due = (parts : Parts way image octets) × (d : Derivation parts.table caller parts.ping (length before) whole) × Q form parts.ping.version (said d) (take len after) len

    weakened : length (take len after) ≡ len
        → (parts : Parts way image octets) (d : Derivation parts.table caller parts.ping (length before) whole) → P form parts.ping.version (said d) (take len after) → Due
    weakened l parts d p = let v : ℕ = parts.ping.version in (parts, d, subst (Q form v (said d) (take len after)) l (weaken form v (said d) (take len after) p))

    by : (o : Try Outcome) → answer_by way image caller octets (length before) ≡ o → Due
    by (Err x) e =
        absurd (refused_not_good x given (sym (ap answer_as e) ∙ sym promise.returned.same ∙ answered))
    by (Ok o) e =
        let f = good-same (sym (ap answer_as e) ∙ sym promise.returned.same ∙ answered) in
        let l : length o.octets ≡ len = ap (λ (x : Answered). x.length) f in
        let c : o.context ≡ context = ap (λ (x : Answered). x.context) f in
        let g : o.form ≡ form = ap (λ (x : Answered). x.form) f in
        let s : o.octets ≡ take len after = sym (ap (take len) (promise.left ∙ ap (λ (x : Try Outcome). over (octets_written x) before) e) ∙ over_front o.octets before len l) in
        let same : o ≡ whole = λ i. record { context = c i; form = g i; octets = s i } in
        let x = every way pings image caller octets (length before) whole (e ∙ ap Ok same) in
        weakened (sym (ap length s) ∙ l) x.0 x.1.0 x.1.1
