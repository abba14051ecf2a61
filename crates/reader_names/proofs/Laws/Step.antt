-- A step keeps to its bounds, and leads to what the reader defines.
use Rattle.std.proofs.Common.{Ok, Err, IfOk}
use mathlib.Core.Path.{◌≡◌, refl}
use mathlib.Core.Bool.{Bool, true, false, not, ◌||◌}
use mathlib.Core.List.{List, []}
use Prim.Native.Nat.{ℕ, suc, ◌+◌, ◌<◌, ◌≤◌}
use native.Mathlib.Omega.{arith}
use lib.Dec.{eqb, ltb}
use lib.ListN.{length}
use borrow.Author.Tests.{ltb-true, ltb-false, eqb-false, not-false}
use Rattle.answers.specs.declared.Refusal.{Refusal}
use Rattle.answers.specs.declared.Refusal.TheVariants.{ReplyText}
use Rattle.answers.specs.Try.{Try, refused_if, ◌>>=◌}
use Rattle.names.specs.Walk.{Look, end, label, pointer, missing, reserved, look_at, on_look, label_at, WalkedName}
use Rattle.octets.proofs.Laws.Lists.{neither_left, neither_right}
use Rattle.reader.specs.declared.field.Read.{Read}
use Rattle.reader.specs.Name.{cut_after, label_before, ending_at, read_name_from}
use Rattle.reader_names.specs.declared.step.NameStep.{NameStep}
use Rattle.reader_names.specs.declared.step.NameStep.TheVariants as step
use Rattle.reader_names.specs.Internal.Step.{label_step, pointer_step, name_step, StepWithin}

-- ---- bounds

step-has : (P : NameStep → Type 0) (b : Bool) (r : Refusal) (t : Try NameStep) → (b ≡ false → IfOk t P) → IfOk (refused_if b r t) P
step-has P true r t f = tt
step-has P false r t f = f refl

module _ (s : List ℕ) (run at spent pointers : ℕ) where
  abbrev Within : NameStep → Type 0
  Within = StepWithin (length s) run at spent pointers

  pub label-within : (n : ℕ) → 1 ≤ n → IfOk (label_step s at spent pointers n) Within
  unfolding label_step
  label-within n some =
      step-has Within (ltb 255 (spent + 1 + n + 1)) _ _ (λ e.
      step-has Within (ltb (length s) (at + 1 + n)) _ _ (λ f. kept (ltb-false 255 (spent + 1 + n + 1) e) (ltb-false (length s) (at + 1 + n) f)))
    where
      kept : spent + 1 + n + 1 ≤ 255 → at + 1 + n ≤ length s → Within (step.Label n)
      kept e f = (some, f, omega arith)

  pub pointer-within : (t : ℕ) → at + 2 ≤ length s → pointers ≤ 16 → IfOk (pointer_step run pointers t) Within
  unfolding pointer_step
  pointer-within t there most =
      step-has Within (not (ltb t run) || eqb pointers 16) _ _
      (λ e. kept (ltb-true t run (not-false (ltb t run) (neither_left (not (ltb t run)) (eqb pointers 16) e))) (eqb-false pointers 16 (neither_right (not (ltb t run)) (eqb pointers 16) e)))
    where
      kept : t < run → (pointers ≡ 16 → ⊥) → Within (step.Pointer t)
      kept e f = (there, e, few)
        where
          few : pointers < 16
          few = omega (arith, most, f)

-- ---- one step of the reader

module _ (s : List ℕ) (run at spent pointers : ℕ) where
  -- what is left of the reading after a step
  abbrev pub after_step : ℕ → Try NameStep → Try (Read WalkedName)
  after_step k (Ok step.Ends) = Ok (record { value = record { labels = []; pointers = pointers }; next = at + 1 })
  after_step k (Ok (step.Label n)) = read_name_from k s run (at + 1 + n) (spent + 1 + n) pointers >>= λ f. Ok (label_before (label_at s at n) f)
  after_step k (Ok (step.Pointer t)) = read_name_from k s t t spent (pointers + 1) >>= λ f. Ok (ending_at (at + 2) f)
  after_step k (Err r) = Err r

  -- a refusal by a test, before what follows
  tested : (k : ℕ) (b : Bool) (r : Refusal) (rest : Try (Read WalkedName)) (x : Try NameStep) → rest ≡ after_step k x → refused_if b r rest ≡ after_step k (refused_if b r x)
  tested k true r rest x e = refl
  tested k false r rest x e = e

  pub one-step : (k : ℕ) → read_name_from (suc k) s run at spent pointers ≡ after_step k (name_step s run at spent pointers)
  unfolding read_name_from name_step label_step pointer_step
  one-step k = go (look_at s at)
    where
      go : (v : Look)
          → on_look v (Ok (record { value = record { labels = []; pointers = pointers }; next = at + 1 }))
          (λ n.
          refused_if (ltb 255 (spent + 1 + n + 1)) ReplyText
          (refused_if (ltb (length s) (at + 1 + n)) (cut_after pointers)
          (read_name_from k s run (at + 1 + n) (spent + 1 + n) pointers >>= λ f. Ok (label_before (label_at s at n) f))))
          (λ t. refused_if (not (ltb t run) || eqb pointers 16) ReplyText (read_name_from k s t t spent (pointers + 1) >>= λ f. Ok (ending_at (at + 2) f)))
          (Err (cut_after pointers)) (Err ReplyText)
          ≡ after_step k (on_look v (Ok step.Ends) (label_step s at spent pointers) (pointer_step run pointers) (Err (cut_after pointers)) (Err ReplyText))
      go end = refl
      go (label n) =
          tested k (ltb 255 (spent + 1 + n + 1)) ReplyText _ _
          (tested k (ltb (length s) (at + 1 + n)) (cut_after pointers) (after_step k (Ok (step.Label n))) (Ok (step.Label n)) refl)
      go (pointer t) = tested k (not (ltb t run) || eqb pointers 16) ReplyText (after_step k (Ok (step.Pointer t))) (Ok (step.Pointer t)) refl
      go missing = refl
      go reserved = refl
