-- A name read step by step: what was read so far, and what is left, make the name that the reader defines.
use Rattle.std.proofs.Common.{Ok, Err}
use mathlib.Core.Path.{◌≡◌, refl, sym, ap, ◌∙◌}
use mathlib.Core.Bool.{cond}
use mathlib.Core.List.{List, [], ◌∷◌, ◌++◌, append-nil}
use Prim.Native.Nat.{ℕ, zero, suc, ◌+◌, ◌<◌, ◌≤◌}
use native.Mathlib.Omega.{arith}
use lib.Dec.{eqb}
use lib.ListN.{length}
use lib.Seq.{append_snoc}
use borrow.Author.Tests.{ne_eqb}
use Rattle.answers.specs.declared.Refusal.{Refusal}
use Rattle.answers.specs.Try.{Try, ◌>>=◌}
use Rattle.names.specs.Walk.{label_at, WalkedName, steps}
use Rattle.names.proofs.Laws.Walk.{bound, bound_read, bound_jump, bound_steps}
use Rattle.octets.proofs.Laws.Label.{size}
use Rattle.octets.proofs.Laws.Lists.{cut-length}
use Rattle.reader.specs.declared.field.Read.{Read}
use Rattle.reader.specs.Name.{label_before, ending_at, read_name_from, read_name}
use Rattle.reader_names.specs.declared.step.NameStep.{NameStep}
use Rattle.reader_names.specs.declared.step.NameStep.TheVariants as step
use Rattle.reader_names.specs.declared.walk.NameWalk.{NameWalk}
use Rattle.reader_names.specs.Internal.Step.{name_step, StepWithin}
use Rattle.reader_names.specs.Internal.Walk.{moved}
use Rattle.reader_names.proofs.Laws.Label.{size-more}
use Rattle.reader_names.proofs.Laws.Step.{after_step, one-step}

-- a name whose first labels were read before, and whose field a pointer may have ended
abbrev pub resumed : List (List ℕ) → ℕ → ℕ → Try (Read WalkedName) → Try (Read WalkedName)
resumed read pointers next (Err r) = Err r
resumed read pointers next (Ok f) = Ok (record { value = record { labels = read ++ f.value.labels; pointers = f.value.pointers }; next = cond (eqb pointers 0) f.next next })

resumed_label : (read : List (List ℕ)) (pointers next : ℕ) (l : List ℕ) (t : Try (Read WalkedName))
    → resumed read pointers next (t >>= λ f. Ok (label_before l f)) ≡ resumed (read ++ (l ∷ [])) pointers next t
resumed_label read pointers next l (Err r) = refl
resumed_label read pointers next l (Ok f) =
    ap (λ (x : List (List ℕ)). Ok (record { value = record { labels = x; pointers = f.value.pointers }; next = cond (eqb pointers 0) f.next next })) (sym (append_snoc read l f.value.labels))

resumed_pointer : (read : List (List ℕ)) (pointers next end : ℕ) (t : Try (Read WalkedName))
    → resumed read pointers next (t >>= λ f. Ok (ending_at end f)) ≡ resumed read (pointers + 1) (cond (eqb pointers 0) end next) t
resumed_pointer read pointers next end (Err r) = refl
resumed_pointer read pointers next end (Ok f) = let z : pointers + 1 ≡ 0 → ⊥ = λ q. omega arith in rw (ne_eqb (pointers + 1) 0 z)

module _ (s : List ℕ) (start : ℕ) where
  -- the reading goes on at an offset, with steps enough
  pub record NameLeft (read : List (List ℕ)) (run at spent pointers next : ℕ) : Type 0 where
    pub turns : ℕ
    pub some : 1 ≤ turns
    pub enough : at < length s → bound s run at < turns
    pub written : spent + 1 ≡ size read
    pub short : spent ≤ 254
    pub few : pointers ≤ 16
    pub left : resumed read pointers next (read_name_from turns s run at spent pointers) ≡ read_name s start

  pub name-start : (next : ℕ) → NameLeft [] start start 0 0 next
  unfolding read_name
  name-start next =
      record {
        turns = steps s;
        some = omega arith;
        enough = bound_steps s start;
        written = refl;
        short = omega arith;
        few = omega arith;
        left = go (read_name_from (steps s) s start start 0 0);
      }
    where
      go : (t : Try (Read WalkedName)) → resumed [] 0 next t ≡ t
      go (Err r) = refl
      go (Ok f) = refl

  module _ {read : List (List ℕ)} {run at spent pointers next : ℕ} (n : NameLeft read run at spent pointers next) where
    -- the next step leads to what the reading gives
    leads : (k : ℕ) × (n.turns ≡ suc k) × (resumed read pointers next (after_step s run at spent pointers k (name_step s run at spent pointers)) ≡ read_name s start)
    leads = go n.turns refl
      where
        go : (m : ℕ) → n.turns ≡ m
            → (k : ℕ) × (n.turns ≡ suc k) × (resumed read pointers next (after_step s run at spent pointers k (name_step s run at spent pointers)) ≡ read_name s start)
        go zero e = absurd (omega (arith, n.some))
        go (suc k) e = (
          k,
          e,
          ap (resumed read pointers next) (sym (ap (λ (x : ℕ). read_name_from x s run at spent pointers) e ∙ one-step s run at spent pointers k)) ∙ n.left,
        )

    after : (x : Try NameStep) → name_step s run at spent pointers ≡ x → resumed read pointers next (after_step s run at spent pointers leads.0 x) ≡ read_name s start
    after x e = ap (λ (y : Try NameStep). resumed read pointers next (after_step s run at spent pointers leads.0 y)) (sym e) ∙ leads.2

    pub name-ends : name_step s run at spent pointers ≡ Ok step.Ends
        → read_name s start ≡ Ok (record { value = record { labels = read; pointers = pointers }; next = cond (eqb pointers 0) (at + 1) next })
    name-ends e =
        sym (after (Ok step.Ends) e)
        ∙ ap (λ (x : List (List ℕ)). Ok (record { value = record { labels = x; pointers = pointers }; next = cond (eqb pointers 0) (at + 1) next })) (append-nil read)

    pub name-refused : (r : Refusal) → name_step s run at spent pointers ≡ Err r → read_name s start ≡ Err r
    name-refused r e = sym (after (Err r) e)

    pub name-label : (m : ℕ) → name_step s run at spent pointers ≡ Ok (step.Label m) → StepWithin (length s) run at spent pointers (step.Label m)
        → NameLeft (read ++ (label_at s at m ∷ [])) run (at + 1 + m) (spent + 1 + m) pointers next
    name-label m e within =
        let inside : at < length s = omega (arith, within.1) in
        let more : bound s run (at + 1 + m) < leads.0 = bound_read s run at m leads.0 within.1 (omega (arith, n.enough inside, leads.1)) in
        let long : length (label_at s at m) ≡ m = cut-length s (at + 1) m within.1 in
        record {
          turns = leads.0;
          some = omega arith;
          enough = λ h. more;
          written = sym (size-more read (label_at s at m) ∙ omega (arith, n.written));
          short = within.2;
          few = n.few;
          left = sym (resumed_label read pointers next (label_at s at m) (read_name_from leads.0 s run (at + 1 + m) (spent + 1 + m) pointers)) ∙ after (Ok (step.Label m)) e;
        }

    pub name-pointer : (t : ℕ) → name_step s run at spent pointers ≡ Ok (step.Pointer t) → StepWithin (length s) run at spent pointers (step.Pointer t)
        → NameLeft read t t spent (pointers + 1) (cond (eqb pointers 0) (at + 2) next)
    name-pointer t e within =
        let inside : at < length s = omega (arith, within.0) in
        let more : bound s t t < leads.0 = bound_jump s run at t leads.0 within.1 (omega (arith, n.enough inside, leads.1)) in
        record {
          turns = leads.0;
          some = omega arith;
          enough = λ h. more;
          written = n.written;
          short = n.short;
          few = omega (arith, within.2);
          left = sym (resumed_pointer read pointers next (at + 2) (read_name_from leads.0 s t t spent (pointers + 1))) ∙ after (Ok (step.Pointer t)) e;
        }

  -- where a walk stands
  abbrev pub Stands : List (List ℕ) → NameWalk → Type 0
  Stands read w = NameLeft read w.run w.at w.spent w.pointers w.next

  -- a step that doesn't end the name leads on
  pub name-moved : {read : List (List ℕ)} (w : NameWalk) → Stands read w → (x : NameStep) → name_step s w.run w.at w.spent w.pointers ≡ Ok x
      → StepWithin (length s) w.run w.at w.spent w.pointers x → (x ≡ step.Ends → ⊥) → (more : List (List ℕ)) × Stands more (moved w x)
  name-moved w n step.Ends e within on = absurd (on refl)
  name-moved w n (step.Label m) e within on = (_, name-label n m e within)
  name-moved w n (step.Pointer t) e within on = (_, name-pointer n t e within)
