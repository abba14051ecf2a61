-- The relation is sound and complete for the function, and blind to octets appended.
use Rattle.std.proofs.Common.{Option, None, Some, option_map}
use mathlib.Core.Path.{◌≡◌, refl, ap, ◌∙◌, subst}
use mathlib.Core.Bool.{Bool, true, false}
use mathlib.Core.List.{List, [], ◌∷◌, ◌++◌}
use Prim.Native.Nat.{ℕ, zero, suc, ◌+◌, ◌*◌, ◌-◌, ◌/◌, ◌<◌, ◌≤◌}
use native.Mathlib.Nat.{mul-le-mul_right, suc-mul}
use native.Mathlib.Omega.{arith}
use lib.Dec.{eqb, leb, ltb}
use lib.ListN.{length, get_or, length-append, get_or-append}
use borrow.Author.Tests.{eq-eqb, ne_eqb, lt-ltb, le-leb, ltb-true, eqb-true, eqb-false, leb-true}
use Rattle.octets.proofs.Laws.Lists.{cut-longer, none_not_some, cond_has}
use Rattle.names.specs.Walk.{Look, end, label, pointer, missing, reserved, if_there, aim, look_at, on_look, label_at, WalkedName, with_label, with_pointer, walk_from, steps, walk}
use Rattle.names.specs.WalkRelation.{Walks, ends, reads, points, WalkFinds, WalkFound, WalkLonger}

-- ---- what stands at an offset

-- the facts that a look tells
abbrev Seen : List ℕ → ℕ → Look → Type 0
Seen s at end = (at < length s) × (get_or s at 0 ≡ 0)
Seen s at (label n) = (at < length s) × (get_or s at 0 ≡ n) × (1 ≤ n) × (n ≤ 63)
Seen s at (pointer t) = (at + 2 ≤ length s) × (get_or s at 0 / 64 ≡ 3) × (aim s at ≡ t)
Seen s at missing = Unit {0}
Seen s at reserved = Unit {0}

there_has : (P : Look → Type 0) (b : Bool) (l : Look) → P missing → (b ≡ true → P l) → P (if_there b l)
there_has P true l p f = f refl
there_has P false l p f = p

seen_at : (s : List ℕ) (at : ℕ) → Seen s at (look_at s at)
unfolding look_at
seen_at s at =
    there_has P (ltb at (length s)) _ tt (λ a.
    cond_has P (eqb x 0) _ _ (λ b. (ltb-true at (length s) a, eqb-true x 0 b)) (λ b.
    cond_has P (eqb (x / 64) 0) _ _ (λ c. text (ltb-true at (length s) a) (eqb-false x 0 b) (eqb-true (x / 64) 0 c)) (λ c.
    cond_has P (eqb (x / 64) 3) _ _
    (λ d. there_has P (leb (at + 2) (length s)) _ tt (λ e. (leb-true (at + 2) (length s) e, eqb-true (x / 64) 3 d, refl)))
    (λ d. tt))))
  where
    P : Look → Type 0
    P = Seen s at

    x : ℕ
    x = get_or s at 0

    text : at < length s → (x ≡ 0 → ⊥) → x / 64 ≡ 0 → P (label x)
    text a n q = (a, refl, omega arith, omega arith)

pub seen : (s : List ℕ) (at : ℕ) (v : Look) → look_at s at ≡ v → Seen s at v
seen s at v e = subst (Seen s at) e (seen_at s at)

pub look_end : (s : List ℕ) (at : ℕ) → Seen s at end → look_at s at ≡ end
unfolding look_at
look_end s at f = rw (lt-ltb at (length s) f.0, eq-eqb (get_or s at 0) 0 f.1)

pub look_label : (s : List ℕ) (at n : ℕ) → Seen s at (label n) → look_at s at ≡ label n
unfolding look_at
look_label s at n f =
    let x : ℕ = get_or s at 0 in
    let e : get_or s at 0 ≡ n = f.1 in
    let z : get_or s at 0 ≡ 0 → ⊥ = λ q. omega arith in
    let q : get_or s at 0 / 64 ≡ 0 = omega arith in
    rw (lt-ltb at (length s) f.0, ne_eqb (get_or s at 0) 0 z, eq-eqb (get_or s at 0 / 64) 0 q) (ap label e)

pub look_pointer : (s : List ℕ) (at t : ℕ) → Seen s at (pointer t) → look_at s at ≡ pointer t
unfolding look_at
look_pointer s at t f =
    let a : at < length s = omega arith in
    let e : get_or s at 0 / 64 ≡ 3 = f.1 in
    let z : get_or s at 0 ≡ 0 → ⊥ = λ q. omega arith in
    let y : get_or s at 0 / 64 ≡ 0 → ⊥ = λ q. omega arith in
    rw (lt-ltb at (length s) a, ne_eqb (get_or s at 0) 0 z, ne_eqb (get_or s at 0 / 64) 0 y, eq-eqb (get_or s at 0 / 64) 3 e, le-leb (at + 2) (length s) f.0) (ap pointer f.2)

-- ---- the relation

-- a walk starts within the octets
pub walk_inside : {s : List ℕ} {run at c next : ℕ} {ls : List (List ℕ)} → Walks s run at ls c next → at < length s
walk_inside {s} {at = at} (ends e) = (seen s at end e).0
walk_inside {s} {at = at} (reads {n = n} e h l w) = (seen s at (label n) e).0
walk_inside {s} {at = at} (points {t = t} e h w) = let f = seen s at (pointer t) e in omega arith

-- a run that started later allows the same
pub later : {s : List ℕ} {run at c next : ℕ} {ls : List (List ℕ)} (run' : ℕ) → run ≤ run' → Walks s run at ls c next → Walks s run' at ls c next
later r le (ends e) = ends e
later r le (reads e h l w) = reads e h l (later r le w)
later r le (points {t = t} e h w) = let k : t < r = omega arith in points e k w

-- ---- octets appended

seen_longer : (s t : List ℕ) (at : ℕ) (v : Look) → Seen s at v → Seen (s ++ t) at v
seen_longer s t at end f = let h : at < length (s ++ t) = simp length-append (omega arith) in (h, get_or-append s t 0 at f.0 ∙ f.1)
seen_longer s t at (label n) f =
    let h : at < length (s ++ t) = simp length-append (omega arith) in
    (h, get_or-append s t 0 at f.0 ∙ f.1, f.2, f.3)
seen_longer s t at (pointer p) f =
    let h : at + 2 ≤ length (s ++ t) = simp length-append (omega arith) in
    let a : at < length s = omega arith in
    let e : get_or (s ++ t) at 0 / 64 ≡ 3 = rw (get_or-append s t 0 at a) f.1 in
    let q : aim (s ++ t) at ≡ p = rw (cut-longer s t at 2 f.0) f.2 in
    (h, e, q)
seen_longer s t at missing f = tt
seen_longer s t at reserved f = tt

label-longer : (s t : List ℕ) (at n : ℕ) → at + 1 + n ≤ length s → label_at (s ++ t) at n ≡ label_at s at n
label-longer s t at n h = cut-longer s t (at + 1) n h

pub longer : {s : List ℕ} {run at c next : ℕ} {ls : List (List ℕ)} (t : List ℕ) → Walks s run at ls c next → Walks (s ++ t) run at ls c next
longer {s} {at = at} t (ends e) = ends (look_end (s ++ t) at (seen_longer s t at end (seen s at end e)))
longer {s} {at = at} t (reads {n = n} e h l w) =
    let k : at + 1 + n ≤ length (s ++ t) = simp length-append (omega arith) in
    reads (look_label (s ++ t) at n (seen_longer s t at (label n) (seen s at (label n) e))) k (label-longer s t at n h ∙ l) (longer t w)
longer {s} {at = at} t (points {t = p} e h w) =
    points (look_pointer (s ++ t) at p (seen_longer s t at (pointer p) (seen s at (pointer p) e))) h (longer t w)

pub walk-longer : WalkLonger
walk-longer s t run at c next ls w = longer t w

-- ---- from the relation to the function

-- what bounds the steps of a walk: each label moves on, each pointer starts an earlier run
abbrev pub bound : List ℕ → ℕ → ℕ → ℕ
bound s run at = run * suc (length s) + (length s - at)

pub bound_read : (s : List ℕ) (run at n k : ℕ) → at + 1 + n ≤ length s → bound s run at < suc k → bound s run (at + 1 + n) < k
bound_read s run at n k h b = omega arith

pub bound_jump : (s : List ℕ) (run at t k : ℕ) → t < run → bound s run at < suc k → bound s t t < k
bound_jump s run at t k h b =
    let m : suc t * suc (length s) ≤ run * suc (length s) = mul-le-mul_right (suc (length s)) h in
    let q : suc t * suc (length s) ≡ t * suc (length s) + suc (length s) = suc-mul t (suc (length s)) in
    omega arith

pub bound_steps : (s : List ℕ) (at : ℕ) → at < length s → bound s at at < steps s
bound_steps s at h =
    let m : at * suc (length s) ≤ length s * suc (length s) = mul-le-mul_right (suc (length s)) (omega arith) in
    let q : suc (length s) * suc (length s) ≡ length s * suc (length s) + suc (length s) = suc-mul (length s) (suc (length s)) in
    omega arith

when_true : (b : Bool) (x : Option WalkedName) → b ≡ true → elim b as (λ y. Option WalkedName) [ true ↦ x | false ↦ None ] ≡ x
when_true true x e = refl
when_true false x e = let z : ◌≡◌ {A = ℕ} 0 1 = cc in absurd (omega arith)

module _ (s : List ℕ) (run at k : ℕ) where
  from_end : look_at s at ≡ end → walk_from (suc k) s run at ≡ Some (record { labels = []; pointers = 0 })
  unfolding walk_from
  from_end e = rw e

  from-label : (n : ℕ) → look_at s at ≡ label n → at + 1 + n ≤ length s → walk_from (suc k) s run at ≡ option_map (with_label (label_at s at n)) (walk_from k s run (at + 1 + n))
  unfolding walk_from
  from-label n e h = rw e (when_true (leb (at + 1 + n) (length s)) _ (le-leb (at + 1 + n) (length s) h))

  from-pointer : (t : ℕ) → look_at s at ≡ pointer t → t < run → walk_from (suc k) s run at ≡ option_map with_pointer (walk_from k s t t)
  unfolding walk_from
  from-pointer t e h = rw e (when_true (ltb t run) _ (lt-ltb t run h))

pub complete : {s : List ℕ} {run at c next : ℕ} {ls : List (List ℕ)} → Walks s run at ls c next → (k : ℕ) → bound s run at < k
    → walk_from k s run at ≡ Some (record { labels = ls; pointers = c })
complete w zero b = absurd (omega arith)
complete {s} {run} {at} (ends e) (suc k) b = from_end s run at k e
complete {s} {run} {at} (reads {n = n} {c = c} {ls = ls} e h l w) (suc k) b =
    rw (from-label s run at k n e h, complete {at = at + 1 + n} w k (bound_read s run at n k h b)) (ap (λ (x : List ℕ). Some (record { labels = x ∷ ls; pointers = c })) l)
complete {s} {run} {at} (points {t = t} e h w) (suc k) b = rw (from-pointer s run at k t e h, complete {run = t} {at = t} w k (bound_jump s run at t k h b))

pub finds : {s : List ℕ} {at c next : ℕ} {ls : List (List ℕ)} → Walks s at at ls c next → walk s at ≡ Some (record { labels = ls; pointers = c })
unfolding walk
finds {s} {at} w = complete w (steps s) (bound_steps s at (walk_inside w))

pub walk_finds : WalkFinds
walk_finds s at c next ls w = finds w

-- ---- from the function to the relation

-- a walk by the relation, that ends somewhere with this name
abbrev WalksTo : List ℕ → ℕ → ℕ → WalkedName → Type 0
WalksTo s run at m = (next : ℕ) × Walks s run at m.labels m.pointers next

pub sound : (k : ℕ) (s : List ℕ) (run at : ℕ) (m : WalkedName) → walk_from k s run at ≡ Some m → WalksTo s run at m
unfolding walk_from
sound zero s run at m e = absurd (none_not_some m e)
sound (suc k) s run at m e = go (look_at s at) refl e (λ r a n q. sound k s r a n q)
  where
    Deeper : Type 0
    Deeper = (r a : ℕ) (n : WalkedName) → walk_from k s r a ≡ Some n → WalksTo s r a n

    after-label : (n : ℕ) → look_at s at ≡ label n → (b : Bool) → leb (at + 1 + n) (length s) ≡ b → (r : Option WalkedName)
        → elim b as (λ y. Option WalkedName) [ true ↦ option_map (with_label (label_at s at n)) r | false ↦ None ] ≡ Some m
        → ((y : WalkedName) → r ≡ Some y → WalksTo s run (at + 1 + n) y) → WalksTo s run at m
    after-label n v false h r q f = absurd (none_not_some m q)
    after-label n v true h None q f = absurd (none_not_some m q)
    after-label n v true h (Some y) q f =
        let d = f y refl in
        let z : record { labels = label_at s at n ∷ y.labels; pointers = y.pointers } ≡ m = cc in
        subst (WalksTo s run at) z (d.0, reads v (leb-true (at + 1 + n) (length s) h) refl d.1)

    after-pointer : (t : ℕ) → look_at s at ≡ pointer t → (b : Bool) → ltb t run ≡ b → (r : Option WalkedName)
        → elim b as (λ y. Option WalkedName) [ true ↦ option_map with_pointer r | false ↦ None ] ≡ Some m
        → ((y : WalkedName) → r ≡ Some y → WalksTo s t t y) → WalksTo s run at m
    after-pointer t v false h r q f = absurd (none_not_some m q)
    after-pointer t v true h None q f = absurd (none_not_some m q)
    after-pointer t v true h (Some y) q f =
        let d = f y refl in
        let z : record { labels = y.labels; pointers = suc y.pointers } ≡ m = cc in
        subst (WalksTo s run at) z (at + 2, points v (ltb-true t run h) d.1)

    go : (v : Look) → look_at s at ≡ v
        → on_look v (Some (record { labels = []; pointers = 0 }))
        (λ n. elim (leb (at + 1 + n) (length s)) as (λ y. Option WalkedName) [ true ↦ option_map (with_label (label_at s at n)) (walk_from k s run (at + 1 + n)) | false ↦ None ])
        (λ t. elim (ltb t run) as (λ y. Option WalkedName) [ true ↦ option_map with_pointer (walk_from k s t t) | false ↦ None ])
        None None
        ≡ Some m
        → Deeper → WalksTo s run at m
    go end v q f = let z : record { labels = []; pointers = 0 } ≡ m = cc in subst (WalksTo s run at) z (at + 1, ends v)
    go (label n) v q f = after-label n v (leb (at + 1 + n) (length s)) refl (walk_from k s run (at + 1 + n)) q (λ y r. f run (at + 1 + n) y r)
    go (pointer t) v q f = after-pointer t v (ltb t run) refl (walk_from k s t t) q (λ y r. f t t y r)
    go missing v q f = absurd (none_not_some m q)
    go reserved v q f = absurd (none_not_some m q)

pub walk-found : WalkFound
unfolding walk
walk-found s at m e = sound (steps s) s at at m e
