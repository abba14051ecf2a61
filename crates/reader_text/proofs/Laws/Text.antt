-- The text of a name, put down label by label while the name is read.
use Rattle.std.proofs.Common.{Ok, Err}
use mathlib.Core.Path.{◌≡◌, refl, sym, ap, subst, ◌∙◌}
use mathlib.Core.List.{List, [], ◌∷◌, ◌++◌}
use Prim.Native.Nat.{ℕ, ◌+◌, ◌-◌}
use native.Mathlib.Omega.{arith}
use lib.ListN.{length, replicate, length-replicate, drop}
use lib.Seq.{take-append_seam}
use Rattle.answers.specs.declared.Refusal.{Refusal}
use Rattle.answers.specs.Try.{Try, ◌>>=◌}
use Rattle.answers.proofs.Laws.Written.{written_promised}
use Rattle.lent.specs.Internal.OverAt.{over_at}
use Rattle.lent.proofs.Laws.OverAt.{Laid, laid_none, laid_more, over_laid}
use Rattle.names.specs.Walk.{label_at, WalkedName}
use Rattle.octets.specs.Buffer.{over}
use Rattle.octets.specs.Label.{joined}
use Rattle.octets.proofs.Laws.Lists.{cut-length}
use Rattle.reader.specs.declared.field.Read.{Read}
use Rattle.reader_text.specs.declared.NameText.{NameText}
use Rattle.reader_names.specs.declared.step.NameStep.TheVariants as step
use Rattle.reader_text.specs.Text.{name_text_lem, text_octets, name_text_as, text_given, NameTextPromise}
use Rattle.reader_text.specs.Internal.Label.{dotted}
use Rattle.reader_names.specs.Internal.Step.{name_step, StepWithin}
use Rattle.reader_names.proofs.Laws.Label.{joined_length}
use Rattle.reader_text.proofs.Laws.Label.{joined-more, dotted-length}
use Rattle.reader_names.proofs.Laws.NameRead.{NameLeft, name-start, name-ends, name-refused, name-label, name-pointer}

abbrev pub blank : List ℕ
blank = replicate 253 0

-- the octets that the call gives are the text's
pub given-text : (t : Try (List ℕ)) → text_given (name_text_as t) ≡ text_octets t
unfolding over
given-text (Err r) = refl
given-text (Ok text) = take-append_seam text (drop (length text) blank)

pub name-text_promised : (reply : List ℕ) (start : ℕ) (r : NameText) → r ≡ name_text_as (name_text_lem reply start) → NameTextPromise reply start r
name-text_promised reply start r e =
    let t : Try (List ℕ) = name_text_lem reply start in
    let w = written_promised t r.len (ap (λ (x : NameText). x.len) e, tt {0}) in
    record { same = e; numbered = w.0.numbered; sized = w.0.sized; given = ap text_given e ∙ given-text t }

module _ (s : List ℕ) (start : ℕ) where
  -- the reading goes on at an offset, and the labels read so far stand joined in the room for the text
  pub record TextLeft (octets : List ℕ) (run at spent pointers : ℕ) : Type 0 where
    pub read : List (List ℕ)
    pub next : ℕ
    pub name : NameLeft s start read run at spent pointers next
    pub room : length octets ≡ 253
    pub laid : Laid 0 blank (joined read) octets (spent - 1)

  pub text-start : TextLeft blank start start 0 0
  unfolding joined
  text-start = record { read = []; next = 0; name = name-start s start 0; room = length-replicate {A = ℕ} 253 0; laid = laid_none 0 blank (omega arith) }

  module _ {octets : List ℕ} {run at spent pointers : ℕ} (t : TextLeft octets run at spent pointers) where
    pub text-ends : (len : ℕ) → len ≡ spent - 1 → name_step s run at spent pointers ≡ Ok step.Ends → record { len = Ok len; octets = octets } ≡ name_text_as (name_text_lem s start)
    unfolding name_text_lem
    text-ends len e q =
        let long : len ≡ length (joined t.read) = omega (arith, joined_length t.read, t.name.written) in
        rw (name-ends s start t.name q, long) (ap (λ (x : List ℕ). record { len = Ok (length (joined t.read)); octets = x }) (over_laid t.laid))

    pub text-refused : (r : Refusal) → name_step s run at spent pointers ≡ Err r → record { len = Err r; octets = blank } ≡ name_text_as (name_text_lem s start)
    unfolding name_text_lem over
    text-refused r q = sym (ap (λ (x : Try (Read WalkedName)). name_text_as (x >>= λ f. Ok (joined f.value.labels))) (name-refused s start t.name r q))

    pub text-label : (m : ℕ) (more : List ℕ) → name_step s run at spent pointers ≡ Ok (step.Label m) → StepWithin (length s) run at spent pointers (step.Label m)
        → length more ≡ 253 → more ≡ over_at (spent - 1) (dotted spent (label_at s at m)) octets → TextLeft more run (at + 1 + m) (spent + 1 + m) pointers
    text-label m more q within long e =
        let size : length (label_at s at m) ≡ m = cut-length s (at + 1) m within.1 in
        let next : spent + 1 + m - 1 ≡ (spent - 1) + length (dotted spent (label_at s at m)) = rw size at (dotted-length spent (label_at s at m)) in
        record {
          read = t.read ++ (label_at s at m ∷ []);
          next = t.next;
          name = name-label s start t.name m q within;
          room = long;
          laid = subst (λ (x : List ℕ). Laid 0 blank x more (spent + 1 + m - 1)) (sym (joined-more t.read (label_at s at m) spent t.name.written)) (laid_more (dotted spent (label_at s at m)) t.laid next e);
        }

    pub text-pointer : (a : ℕ) → name_step s run at spent pointers ≡ Ok (step.Pointer a) → StepWithin (length s) run at spent pointers (step.Pointer a) → TextLeft octets a a spent (pointers + 1)
    text-pointer a q within = record { read = t.read; next = _; name = name-pointer s start t.name a q within; room = t.room; laid = t.laid }
