-- The reader and the walk: what the reader accepts is the walk's, it accepts every walk within its two limits, and its steps are enough.
use Rattle.std.proofs.Common.{Ok, Err, Some}
use mathlib.Core.Path.{◌≡◌, refl, sym, ap, ◌∙◌, subst}
use mathlib.Core.Bool.{Bool, true, false, not, ◌||◌}
use mathlib.Core.List.{List, [], ◌∷◌, flat_map}
use Prim.Native.Nat.{ℕ, zero, suc, ◌+◌, ◌<◌, ◌≤◌}
use native.Mathlib.Nat.{zero-add, add-zero, suc-mul}
use native.Mathlib.Omega.{arith}
use lib.Dec.{eqb, ltb}
use lib.ListN.{length, length-append}
use borrow.Author.Tests.{lt-ltb, le-ltb, ne_eqb, ltb-true, ltb-false, eqb-false, not-false}
use Rattle.answers.specs.declared.Refusal.{Refusal}
use Rattle.answers.specs.declared.Refusal.TheVariants.{ReplyText}
use Rattle.answers.specs.Try.{Try, refused_if, ◌>>=◌}
use Rattle.answers.proofs.Laws.Try.{refused_not_good, refused_if-good}
use Rattle.names.specs.Name.{literal_label}
use Rattle.names.specs.Walk.{Look, end, label, pointer, missing, reserved, look_at, on_look, label_at, WalkedName, steps}
use Rattle.names.specs.WalkRelation.{Walks, ends, reads, points}
use Rattle.names.proofs.Laws.Walk.{walk_inside, finds, bound, bound_read, bound_jump, bound_steps}
use Rattle.octets.proofs.Laws.Label.{size, size_positive}
use Rattle.octets.proofs.Laws.Lists.{cut-length, neither_left, neither_right}
use Rattle.reader.specs.declared.field.Read.{Read}
use Rattle.reader.specs.Name.{written_most, pointers_most, cut_after, label_before, ending_at, read_name_from, read_name}
use Rattle.reader.specs.ReaderWalks.{ReaderWalks, written_out, ReaderLimits, ReaderAccepts, ReaderStepsEnough}

-- what a look leads to, with k steps more
abbrev looked : ℕ → List ℕ → ℕ → ℕ → ℕ → ℕ → Look → Try (Read WalkedName)
looked k s run at spent pointers v =
    on_look v (Ok (record { value = record { labels = []; pointers = pointers }; next = at + 1 }))
    (λ n.
    refused_if (ltb written_most (spent + 1 + n + 1)) ReplyText
    (refused_if (ltb (length s) (at + 1 + n)) (cut_after pointers)
    (read_name_from k s run (at + 1 + n) (spent + 1 + n) pointers >>= λ f. Ok (label_before (label_at s at n) f))))
    (λ t. refused_if (not (ltb t run) || eqb pointers pointers_most) ReplyText (read_name_from k s t t spent (pointers + 1) >>= λ f. Ok (ending_at (at + 2) f)))
    (Err (cut_after pointers)) (Err ReplyText)

-- ---- the reader accepts a walk within its limits

module _ (s : List ℕ) (run at spent pointers k : ℕ) where
  from_end : look_at s at ≡ end → read_name_from (suc k) s run at spent pointers ≡ Ok (record { value = record { labels = []; pointers = pointers }; next = at + 1 })
  unfolding read_name_from
  from_end e = rw e

  from-label : (n : ℕ) → look_at s at ≡ label n → at + 1 + n ≤ length s → spent + 1 + n + 1 ≤ 255
      → read_name_from (suc k) s run at spent pointers ≡ (read_name_from k s run (at + 1 + n) (spent + 1 + n) pointers >>= λ f. Ok (label_before (label_at s at n) f))
  unfolding read_name_from
  from-label n e h room = rw (e, le-ltb written_most (spent + 1 + n + 1) room, le-ltb (length s) (at + 1 + n) h)

  from-pointer : (t : ℕ) → look_at s at ≡ pointer t → t < run → pointers < 16 → read_name_from (suc k) s run at spent pointers ≡ (read_name_from k s t t spent (pointers + 1) >>= λ f. Ok (ending_at (at + 2) f))
  unfolding read_name_from
  from-pointer t e h room =
      let z : pointers ≡ pointers_most → ⊥ = λ q. omega arith in
      rw (e, lt-ltb t run h, ne_eqb pointers pointers_most z)

-- a name of labels ls that follows c pointers more, and whose field ends at next
abbrev Given : List (List ℕ) → ℕ → ℕ → Try (Read WalkedName)
Given ls c next = Ok (record { value = record { labels = ls; pointers = c }; next = next })

accepts : {s : List ℕ} {run at c next : ℕ} {ls : List (List ℕ)} → Walks s run at ls c next → (k spent pointers : ℕ) → bound s run at < k
    → spent + size ls ≤ 255 → pointers + c ≤ 16 → read_name_from k s run at spent pointers ≡ Given ls (pointers + c) next
accepts w zero spent pointers b room few = absurd (omega arith)
accepts {s} {run} {at} (ends e) (suc k) spent pointers b room few = rw (from_end s run at spent pointers k e, add-zero pointers)
accepts {s} {run} {at} (reads {n = n} {c = c} {next = next} {l = l} {ls = ls} e h q w) (suc k) spent pointers b room few =
    let m : length l ≡ n = ap length (sym q) ∙ cut-length s (at + 1) n h in
    let p : 1 ≤ size ls = size_positive ls in
    rw (from-label s run at spent pointers k n e h (omega arith), accepts {at = at + 1 + n} w k (spent + 1 + n) pointers (bound_read s run at n k h b) (omega arith) few)
    (ap (λ (x : List ℕ). Given (x ∷ ls) (pointers + c) next) q)
accepts {s} {run} {at} (points {t = t} {c = c} {ls = ls} e h w) (suc k) spent pointers b room few =
    let z : pointers + 1 + c ≡ pointers + suc c = omega arith in
    rw (from-pointer s run at spent pointers k t e h (omega arith), accepts {run = t} {at = t} w k spent (pointers + 1) (bound_jump s run at t k h b) room (omega arith))
    (ap (λ (x : ℕ). Given ls x (at + 2)) z)

written_out_size : (ls : List (List ℕ)) → length (written_out ls) ≡ size ls
unfolding flat_map literal_label
written_out_size [] = refl
written_out_size (l ∷ ls) = simp length-append (omega (arith, simp length-append at (written_out_size ls)))

pub reader_accepts : ReaderAccepts
unfolding read_name
reader_accepts s at c next ls w room few =
    accepts w _ 0 0 (omega (arith, bound_steps s at (walk_inside w))) (omega (arith, written_out_size ls)) (omega arith) ∙ ap (λ (x : ℕ). Given ls x next) (zero-add c)

pub name_here : {s : List ℕ} {at c next : ℕ} {ls : List (List ℕ)} → Walks s at at ls c next → size ls ≤ 255 → c ≤ 16 → read_name s at ≡ Ok (record { value = record { labels = ls; pointers = c }; next = next })
name_here {s} {at} {c} {next} {ls} w room few = reader_accepts s at c next ls w (omega (arith, written_out_size ls)) few

-- ---- steps that are enough give the same, however many they are

-- what is refused before is no matter
unless_refused : {A : Type 0} (b : Bool) (r : Refusal) (x y : Try A) → (b ≡ false → x ≡ y) → refused_if b r x ≡ refused_if b r y
unless_refused true r x y e = refl
unless_refused false r x y e = e refl

same-steps : (k j : ℕ) (s : List ℕ) (run at spent pointers : ℕ) → bound s run at < k → bound s run at < j → read_name_from k s run at spent pointers ≡ read_name_from j s run at spent pointers
unfolding read_name_from
same-steps zero j s run at spent pointers b d = absurd (omega arith)
same-steps (suc k) zero s run at spent pointers b d = absurd (omega arith)
same-steps (suc k) (suc j) s run at spent pointers b d = go (look_at s at) (λ r a u p. same-steps k j s r a u p)
  where
    go : (v : Look) → ((r a u p : ℕ) → bound s r a < k → bound s r a < j → read_name_from k s r a u p ≡ read_name_from j s r a u p) → looked k s run at spent pointers v ≡ looked j s run at spent pointers v
    go end deeper = refl
    go (label n) deeper =
        unless_refused (ltb written_most (spent + 1 + n + 1)) ReplyText _ _ (λ e.
        unless_refused (ltb (length s) (at + 1 + n)) (cut_after pointers) _ _ (λ f.
        let h : at + 1 + n ≤ length s = ltb-false (length s) (at + 1 + n) f in
        ap (λ (x : Try (Read WalkedName)). x >>= λ g. Ok (label_before (label_at s at n) g))
        (deeper run (at + 1 + n) (spent + 1 + n) pointers (bound_read s run at n k h b) (bound_read s run at n j h d))))
    go (pointer t) deeper =
        unless_refused (not (ltb t run) || eqb pointers pointers_most) ReplyText _ _ (λ e.
        let h : t < run = ltb-true t run (not-false (ltb t run) (neither_left (not (ltb t run)) (eqb pointers pointers_most) e)) in
        ap (λ (x : Try (Read WalkedName)). x >>= λ g. Ok (ending_at (at + 2) g)) (deeper t t spent (pointers + 1) (bound_jump s run at t k h b) (bound_jump s run at t j h d)))
    go missing deeper = refl
    go reserved deeper = refl

-- past the end one look is enough
past_end : (k : ℕ) (s : List ℕ) (run at spent pointers : ℕ) → 1 ≤ k → length s ≤ at → read_name_from k s run at spent pointers ≡ Err (cut_after pointers)
unfolding read_name_from look_at
past_end zero s run at spent pointers one h = absurd (omega arith)
past_end (suc k) s run at spent pointers one h = rw (le-ltb at (length s) h)

pub reader_steps_enough : ReaderStepsEnough
unfolding read_name
reader_steps_enough s at k = by (ltb at (length s)) refl
  where
    by : (b : Bool) → ltb at (length s) ≡ b → read_name_from (steps s + k) s at at 0 0 ≡ read_name s at
    by true e =
        let h : bound s at at < steps s = bound_steps s at (ltb-true at (length s) e) in
        same-steps (steps s + k) _ s at at 0 0 (omega arith) h
    by false e =
        let past : length s ≤ at = ltb-false at (length s) e in
        let one : 1 ≤ steps s = omega (arith, suc-mul (length s) (suc (length s))) in
        past_end (steps s + k) s at at 0 0 (omega arith) past ∙ sym (past_end _ s at at 0 0 one past)

-- ---- what the reader accepts is the walk's

-- from `at`, with octets spent and pointers followed before: a walk by the relation, within the two limits where these were
abbrev ReadsTo : List ℕ → ℕ → ℕ → ℕ → ℕ → Read WalkedName → Type 0
ReadsTo s run at spent pointers f =
    (c : ℕ) × (f.value.pointers ≡ pointers + c)
    × Walks s run at f.value.labels c f.next
    × (spent + 1 ≤ 255 → spent + size f.value.labels ≤ 255)
    × (pointers ≤ 16 → pointers + c ≤ 16)

agrees : (k : ℕ) (s : List ℕ) (run at spent pointers : ℕ) (f : Read WalkedName) → read_name_from k s run at spent pointers ≡ Ok f → ReadsTo s run at spent pointers f
unfolding read_name_from
agrees zero s run at spent pointers f e = absurd (refused_not_good ReplyText f e)
agrees (suc k) s run at spent pointers f e = go (look_at s at) refl e (λ r a u p g q. agrees k s r a u p g q)
  where
    Deeper : Type 0
    Deeper = (r a u p : ℕ) (g : Read WalkedName) → read_name_from k s r a u p ≡ Ok g → ReadsTo s r a u p g

    after-label : (n : ℕ) → look_at s at ≡ label n → at + 1 + n ≤ length s → spent + 1 + n + 1 ≤ 255 → (r : Try (Read WalkedName)) → (r >>= λ g. Ok (label_before (label_at s at n) g)) ≡ Ok f
        → ((g : Read WalkedName) → r ≡ Ok g → ReadsTo s run (at + 1 + n) (spent + 1 + n) pointers g) → ReadsTo s run at spent pointers f
    after-label n v h room (Err r) q d = absurd (refused_not_good r f q)
    after-label n v h room (Ok g) q d =
        let y = d g refl in
        let z : label_before (label_at s at n) g ≡ f = cc in
        let m : length (label_at s at n) ≡ n = cut-length s (at + 1) n h in
        let u : spent + 1 + n + size g.value.labels ≤ 255 = y.3 room in
        subst (ReadsTo s run at spent pointers) z (y.0, y.1, reads v h refl y.2, (λ w. omega (arith, m, u)), y.4)

    after-pointer : (t : ℕ) → look_at s at ≡ pointer t → t < run → (pointers ≡ pointers_most → ⊥) → (r : Try (Read WalkedName)) → (r >>= λ g. Ok (ending_at (at + 2) g)) ≡ Ok f
        → ((g : Read WalkedName) → r ≡ Ok g → ReadsTo s t t spent (pointers + 1) g) → ReadsTo s run at spent pointers f
    after-pointer t v h few (Err r) q d = absurd (refused_not_good r f q)
    after-pointer t v h few (Ok g) q d =
        let y = d g refl in
        let z : ending_at (at + 2) g ≡ f = cc in
        let m : g.value.pointers ≡ pointers + suc y.0 = omega (arith, y.1) in
        subst (ReadsTo s run at spent pointers) z (suc y.0, m, points v h y.2, y.3, (λ w. omega (arith, y.4 (omega (arith, w, few)))))

    go : (v : Look) → look_at s at ≡ v → looked k s run at spent pointers v ≡ Ok f → Deeper → ReadsTo s run at spent pointers f
    go end v q d =
        let z : record { value = record { labels = []; pointers = pointers }; next = at + 1 } ≡ f = cc in
        subst (ReadsTo s run at spent pointers) z (0, sym (add-zero pointers), ends v, (λ w. w), (λ w. omega (arith, w)))
    go (label n) v q d =
        let a = refused_if-good (ltb written_most (spent + 1 + n + 1)) ReplyText _ f q in
        let b = refused_if-good (ltb (length s) (at + 1 + n)) (cut_after pointers) _ f a.1 in
        after-label n v (ltb-false (length s) (at + 1 + n) b.0) (ltb-false written_most (spent + 1 + n + 1) a.0) (read_name_from k s run (at + 1 + n) (spent + 1 + n) pointers) b.1 (λ g r. d run (at + 1 + n) (spent + 1 + n) pointers g r)
    go (pointer t) v q d =
        let a = refused_if-good (not (ltb t run) || eqb pointers pointers_most) ReplyText _ f q in
        let h : t < run = ltb-true t run (not-false (ltb t run) (neither_left (not (ltb t run)) (eqb pointers pointers_most) a.0)) in
        let few : pointers ≡ pointers_most → ⊥ = eqb-false pointers pointers_most (neither_right (not (ltb t run)) (eqb pointers pointers_most) a.0) in
        after-pointer t v h few (read_name_from k s t t spent (pointers + 1)) a.1 (λ g r. d t t spent (pointers + 1) g r)
    go missing v q d = absurd (refused_not_good (cut_after pointers) f q)
    go reserved v q d = absurd (refused_not_good ReplyText f q)

pub reader_walks : ReaderWalks
unfolding read_name
reader_walks s at f e =
    let d = agrees _ s at at 0 0 f e in
    let z : d.0 ≡ f.value.pointers = omega (arith, d.1) in
    finds d.2 ∙ ap (λ (c : ℕ). Some (record { labels = f.value.labels; pointers = c })) z

pub reader_limits : ReaderLimits
unfolding read_name
reader_limits s at f e =
    let d = agrees _ s at at 0 0 f e in
    let room : 0 + size f.value.labels ≤ 255 = d.3 (omega arith) in
    let few : 0 + d.0 ≤ 16 = d.4 (omega arith) in
    (omega (arith, room, written_out_size f.value.labels), omega (arith, few, d.1))
