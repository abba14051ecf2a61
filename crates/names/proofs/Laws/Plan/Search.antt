-- The search for a tail: it says what a name writes, goes name by name, and label by label.
use Rattle.std.proofs.Common.{Option, None, Some}
use mathlib.Core.Path.{◌≡◌, refl, sym, ap, ap₂, ◌∙◌}
use mathlib.Core.Bool.{Bool, true, false, cond}
use mathlib.Core.List.{List, [], ◌∷◌, ◌++◌, flat_map, append_assoc}
use Prim.Native.Nat.{ℕ, suc, ◌+◌, ◌-◌, ◌≤◌, ◌<◌}
use native.Mathlib.Omega.{arith}
use lib.Dec.{ltb}
use lib.ListN.{length, take, drop, length-append}
use lib.Seq.{take-append-add}
use borrow.Author.Tests.{lt-ltb, le-ltb, ltb-true, ltb-false}
use Rattle.octets.specs.Label.{parts, labels, joined}
use Rattle.octets.specs.Lists.{first}
use Rattle.octets.proofs.Laws.Lists.{or_else, first-append}
use Rattle.octets.specs.Text.{same}
use Rattle.names.specs.Name.{Tail, Writing, literal_label, literally, pointer_or, write_labels}
use Rattle.names.specs.declared.plan.Aim.{Aim}
use Rattle.names.specs.Internal.Plan.{tails_from, offers_tail, aimed, first_aim, shift, aim_or, better_aim, AimWithin, ending_octets, to_dot, literal_octets}
use Rattle.names.proofs.Laws.Plan.Labels.{rest_from, rest_step, rest_text, rest_past, first-length, some-labels}
use Rattle.names.proofs.Laws.Plan.Tails.{aim-found}

-- ---- what a name writes by its aim

abbrev pub literal_of : Option Aim → List (List ℕ) → ℕ
literal_of (Some a) ls = a.before
literal_of None ls = length (flat_map literal_label ls)

abbrev pub pointer_of : Option Aim → Option ℕ
pointer_of (Some a) = Some a.offset
pointer_of None = None

abbrev pub written_out : ℕ → ℕ → Option ℕ → List (List ℕ) → Writing
written_out at literal ending ls = record { octets = take literal (flat_map literal_label ls) ++ ending_octets ending; tails = tails_from at literal ls }

abbrev pub written : ℕ → Option Aim → List (List ℕ) → Writing
written at aim ls = written_out at (literal_of aim ls) (pointer_of aim) ls

-- one label more before it
label-more : (at literal : ℕ) (ending : Option ℕ) (l : List ℕ) (ls : List (List ℕ))
    → literally at (joined (l ∷ ls)) l (written_out (at + (1 + length l)) literal ending ls) ≡ written_out at (1 + length l + literal) ending (l ∷ ls)
unfolding flat_map literal_label tails_from
label-more at literal ending l ls =
    let f : List ℕ = flat_map literal_label ls in
    let a : suc (length l) + literal ≡ 1 + length l + literal = omega arith in
    let b : suc (length l + literal) ≡ 1 + length l + literal = omega arith in
    let k : literal ≡ length l + literal - length l = omega arith in
    let o : literal_label l ++ (take literal f ++ ending_octets ending) ≡ take (1 + length l + literal) (literal_label l ++ f) ++ ending_octets ending =
    sym (append_assoc (literal_label l) (take literal f) (ending_octets ending))
    ∙ ap (λ (x : List ℕ). x ++ ending_octets ending) (sym (take-append-add (literal_label l) f literal) ∙ ap (λ (n : ℕ). take n (literal_label l ++ f)) a) in
    let t : record { offset = at; text = joined (l ∷ ls) } ∷ tails_from (at + (1 + length l)) literal ls ≡ tails_from at (1 + length l + literal) (l ∷ ls) =
    ap (λ (n : ℕ). record { offset = at; text = joined (l ∷ ls) } ∷ tails_from (at + (1 + length l)) n ls) k
    ∙ ap (λ (n : ℕ). tails_from at n (l ∷ ls)) b in
    ap₂ (λ (x : List ℕ) (y : List Tail). record { octets = x; tails = y }) o t

aim-more : (at : ℕ) (aim : Option Aim) (l : List ℕ) (ls : List (List ℕ))
    → literally at (joined (l ∷ ls)) l (written (at + (1 + length l)) aim ls) ≡ written at (shift (1 + length l) aim) (l ∷ ls)
unfolding flat_map literal_label
aim-more at (Some a) l ls = label-more at a.before (Some a.offset) l ls
aim-more at None l ls =
    let e : 1 + length l + length (flat_map literal_label ls) ≡ length (literal_label l ++ flat_map literal_label ls) = simp length-append (omega arith) in
    label-more at (length (flat_map literal_label ls)) None l ls ∙ ap (λ (n : ℕ). written_out at n None (l ∷ ls)) e

-- a name is written as the search says
pub written_by_search : (earlier : List Tail) (at : ℕ) (ls : List (List ℕ)) → write_labels earlier at ls ≡ written at (first_aim earlier ls) ls
unfolding write_labels first_aim flat_map tails_from
written_by_search earlier at [] = refl
written_by_search earlier at (l ∷ ls) = go (first (λ t. same t.text (joined (l ∷ ls))) earlier) (written_by_search earlier (at + (1 + length l)) ls)
  where
    rest : Writing
    rest = write_labels earlier (at + (1 + length l)) ls

    go : (f : Option Tail) → rest ≡ written (at + (1 + length l)) (first_aim earlier ls) ls
        → pointer_or f (literally at (joined (l ∷ ls)) l rest) ≡ written at (aim_or f (shift (1 + length l) (first_aim earlier ls))) (l ∷ ls)
    go None e = ap (literally at (joined (l ∷ ls)) l) e ∙ aim-more at (first_aim earlier ls) l ls
    go (Some t) e = refl

-- ---- name by name

better_shift : (n : ℕ) (a b : Option Aim) → better_aim (shift n a) (shift n b) ≡ shift n (better_aim a b)
better_shift n None b = refl
better_shift n (Some a) None = refl
better_shift n (Some a) (Some b) = go (ltb b.before a.before) refl
  where
    go : (t : Bool) → ltb b.before a.before ≡ t
        → cond (ltb (n + b.before) (n + a.before)) (shift n (Some b)) (shift n (Some a)) ≡ shift n (cond t (Some b) (Some a))
    go true e = let h : b.before < a.before = ltb-true b.before a.before e in rw (lt-ltb (n + b.before) (n + a.before) (omega arith))
    go false e = let h : a.before ≤ b.before = ltb-false b.before a.before e in rw (le-ltb (n + b.before) (n + a.before) (omega arith))

-- nothing is better than no octets before it, nor as good where it comes later
better_none : (offset : ℕ) (b : Option Aim) → better_aim (aimed 0 offset) b ≡ aimed 0 offset
better_none offset None = refl
better_none offset (Some b) = rw (le-ltb b.before 0 (omega arith))

better_later : (n offset : ℕ) (a : Option Aim) → better_aim (shift (1 + n) a) (aimed 0 offset) ≡ aimed 0 offset
better_later n offset None = refl
better_later n offset (Some a) = rw (lt-ltb 0 (1 + n + a.before) (omega arith))

pub search_append : (ts us : List Tail) (ls : List (List ℕ)) → first_aim (ts ++ us) ls ≡ better_aim (first_aim ts ls) (first_aim us ls)
unfolding first_aim
search_append ts us [] = refl
search_append ts us (l ∷ ls) =
    ap (λ (o : Option Tail). aim_or o (shift (1 + length l) (first_aim (ts ++ us) ls))) (first-append (λ t. same t.text (joined (l ∷ ls))) ts us)
    ∙ go (first (λ t. same t.text (joined (l ∷ ls))) ts) (first (λ t. same t.text (joined (l ∷ ls))) us) (search_append ts us ls)
  where
    go : (f g : Option Tail) → first_aim (ts ++ us) ls ≡ better_aim (first_aim ts ls) (first_aim us ls)
        → aim_or (or_else f g) (shift (1 + length l) (first_aim (ts ++ us) ls))
        ≡ better_aim (aim_or f (shift (1 + length l) (first_aim ts ls))) (aim_or g (shift (1 + length l) (first_aim us ls)))
    go (Some t) g e = sym (better_none t.offset (aim_or g (shift (1 + length l) (first_aim us ls))))
    go None (Some u) e = sym (better_later (length l) u.offset (first_aim ts ls))
    go None None e = ap (shift (1 + length l)) e ∙ sym (better_shift (1 + length l) (first_aim ts ls) (first_aim us ls))

pub search_none : (ls : List (List ℕ)) → first_aim [] ls ≡ None
unfolding first_aim first
search_none [] = refl
search_none (l ∷ ls) = ap (shift (1 + length l)) (search_none ls)

pub better_within : (n : ℕ) (a b : Option Aim) → AimWithin n a → AimWithin n b → AimWithin n (better_aim a b)
better_within n None b h k = k
better_within n (Some a) None h k = h
better_within n (Some a) (Some b) h k = go (ltb b.before a.before)
  where
    go : (t : Bool) → AimWithin n (cond t (Some b) (Some a))
    go true = k
    go false = h

-- ---- label by label, in the tails of one name

shift-shift : (m n : ℕ) (a : Option Aim) → shift m (shift n a) ≡ shift (m + n) a
shift-shift m n (Some a) = let e : m + (n + a.before) ≡ m + n + a.before = omega arith in ap (λ (k : ℕ). aimed k a.offset) e
shift-shift m n None = refl

shift_none : (a : Option Aim) → shift 0 a ≡ a
shift_none (Some a) = let e : 0 + a.before ≡ a.before = omega arith in ap (λ (k : ℕ). aimed k a.offset) e
shift_none None = refl

-- what the labels from an offset of a text on give
abbrev pub search_from : List Tail → List ℕ → ℕ → Option Aim
search_from ts text n = shift n (first_aim ts (rest_from n text))

pub search_empty : (ts : List Tail) (text : List ℕ) → length text ≡ 0 → None ≡ first_aim ts (labels text)
unfolding first_aim labels
search_empty ts [] h = refl
search_empty ts (x ∷ xs) h = absurd (omega arith)

pub search_start : (ts : List Tail) (text : List ℕ) → (length text ≡ 0 → ⊥) → search_from ts text 0 ≡ first_aim ts (labels text)
search_start ts text h = shift_none (first_aim ts (parts text)) ∙ ap (first_aim ts) (sym (some-labels text (omega arith)))

pub search_end : (ts : List Tail) (text : List ℕ) (n : ℕ) → length text < n → None ≡ search_from ts text n
unfolding first_aim
search_end ts text n h = rw (rest_past n text h)

module _ (at literal : ℕ) (earlier : List ℕ) (fit : literal ≤ length (literal_octets earlier)) (text : List ℕ) (n : ℕ) (h : n ≤ length text) where
  abbrev ts : List Tail
  ts = tails_from at literal (labels earlier)

  abbrev x : List ℕ
  x = drop n text

  abbrev here : Option Aim
  here = aimed n (at + (length earlier - length x))

  abbrev next : Option Aim
  next = search_from ts text (n + to_dot x + 1)

  search_step : search_from ts text n ≡ cond (offers_tail earlier literal x) here next
  unfolding first_aim
  search_step =
      let e : rest_from n text ≡ l ∷ ls = rest_step n text h in
      ap (λ (r : List (List ℕ)). shift n (first_aim ts r)) e
      ∙ ap (λ (y : List ℕ). shift n (aim_or (first (λ t. same t.text y) ts) (shift (1 + length l) (first_aim ts ls)))) (ap joined (sym e) ∙ rest_text n text h)
      ∙ ap (shift n) (aim-found x at literal earlier (shift (1 + length l) (first_aim ts ls)) fit)
      ∙ go (offers_tail earlier literal x)
    where
      l : List ℕ
      l = take (to_dot x) x

      ls : List (List ℕ)
      ls = rest_from (n + to_dot x + 1) text

      go : (b : Bool) → shift n (cond b (aimed 0 (at + (length earlier - length x))) (shift (1 + length l) (first_aim ts ls))) ≡ cond b here next
      go true = let k : n + 0 ≡ n = omega arith in ap (λ (m : ℕ). aimed m (at + (length earlier - length x))) k
      go false =
          let k : n + (1 + length l) ≡ n + to_dot x + 1 = omega (arith, first-length x) in
          shift-shift n (1 + length l) (first_aim ts ls) ∙ ap (λ (m : ℕ). shift m (first_aim ts ls)) k

  pub search_here : offers_tail earlier literal x ≡ true → here ≡ search_from ts text n
  search_here e = sym (search_step ∙ ap (λ (b : Bool). cond b here next) e)

  pub search_next : offers_tail earlier literal x ≡ false → next ≡ search_from ts text n
  search_next e = sym (search_step ∙ ap (λ (b : Bool). cond b here next) e)
