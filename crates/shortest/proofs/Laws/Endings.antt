-- After each name the writer's tails are all endings of the names so far: each ending was written literally once, or was pointed to, and then it was there.
use Rattle.std.proofs.Common.{Option, None, Some, is_some}
use mathlib.Core.Path.{◌≡◌, refl, sym, ap, ◌∙◌, subst}
use mathlib.Core.Bool.{Bool, true, false}
use mathlib.Core.List.{List, [], ◌∷◌, ◌++◌, append-nil}
use Prim.Native.Nat.{ℕ, ◌+◌}
use lib.ListN.{length}
use Rattle.names.specs.Name.{Tail, Writing, literally, pointer_or, write_labels}
use Rattle.octets.specs.Label.{labels, joined}
use Rattle.octets.specs.Lists.{first, first_or}
use Rattle.octets.specs.Text.{same}
use Rattle.octets.proofs.Laws.Label.{Plain, labels-joined}
use Rattle.octets.proofs.Laws.Lists.{Every, every_append, every_weaken, found, or_else, first-append, true_not_false}
use Rattle.octets.proofs.Laws.Text.{same_equal, same_self}

-- a tail with this text is there: the writer's search finds one
abbrev pub find : List Tail → List ℕ → Option Tail
find tails text = first (λ t. same t.text text) tails

abbrev pub Holds : List Tail → List ℕ → Type 0
Holds tails text = is_some (find tails text) ≡ true

-- all endings of these labels are there
abbrev pub HoldsEndings : List Tail → List (List ℕ) → Type 0
HoldsEndings tails [] = Unit {0}
HoldsEndings tails (l ∷ ls) = Holds tails (joined (l ∷ ls)) × HoldsEndings tails ls

-- with each tail all its endings are there
abbrev pub Closed : List Tail → Type 0
Closed tails = Every (λ t. HoldsEndings tails (labels t.text)) tails

-- ---- more tails hold more

pub endings_more : (a b : List Tail) → ((text : List ℕ) → Holds a text → Holds b text) → (ls : List (List ℕ)) → HoldsEndings a ls → HoldsEndings b ls
endings_more a b more [] h = tt
endings_more a b more (l ∷ ls) h = (more (joined (l ∷ ls)) h.0, endings_more a b more ls h.1)

either_some : (x y : Option Tail) → is_some x ≡ true → is_some (or_else x y) ≡ true
either_some None y e = absurd (true_not_false (sym e))
either_some (Some t) y e = refl

pub holds-before : (a b : List Tail) (text : List ℕ) → Holds a text → Holds (a ++ b) text
holds-before a b text h = rw (first-append (λ t. same t.text text) a b) (either_some (find a text) (find b text) h)

-- one more among them
holds-between : (a b : List Tail) (t : Tail) (text : List ℕ) → Holds (a ++ b) text → Holds (a ++ (t ∷ b)) text
unfolding first
holds-between a b t text h =
    rw (first-append (λ t. same t.text text) a (t ∷ b)) (go (find a text) (same t.text text) (find b text) (rw (first-append (λ t. same t.text text) a b) at h))
  where
    go : (x : Option Tail) (c : Bool) (y : Option Tail) → is_some (or_else x y) ≡ true → is_some (or_else x (first_or c t y)) ≡ true
    go None true y e = refl
    go None false y e = e
    go (Some u) c y e = refl

holds_this : (a b : List Tail) (at : ℕ) (text : List ℕ) → Holds (a ++ (record { offset = at; text = text } ∷ b)) text
unfolding first
holds_this a b at text = rw (first-append (λ t. same t.text text) a (record { offset = at; text = text } ∷ b), same_self text) (go (find a text))
  where
    go : (x : Option Tail) → is_some (or_else x (Some (record { offset = at; text = text }))) ≡ true
    go None = refl
    go (Some u) = refl

-- ---- one name

-- all its endings are there once it is written
pub endings_held : (earlier : List Tail) (at : ℕ) (ls : List (List ℕ)) → Plain ls → Closed earlier → HoldsEndings (earlier ++ (write_labels earlier at ls).tails) ls
unfolding write_labels
endings_held earlier at [] plain closed = tt
endings_held earlier at (l ∷ ls) plain closed = go (find earlier text) refl (endings_held earlier (at + (1 + length l)) ls plain.1 closed)
  where
    text : List ℕ
    text = joined (l ∷ ls)

    rest : Writing
    rest = write_labels earlier (at + (1 + length l)) ls

    here : Writing
    here = literally at text l rest

    go : (f : Option Tail) → find earlier text ≡ f → HoldsEndings (earlier ++ rest.tails) ls → HoldsEndings (earlier ++ (pointer_or f here).tails) (l ∷ ls)
    go (Some t) q h =
        let f = found (λ t. same t.text text) (λ t. HoldsEndings earlier (labels t.text)) earlier t closed q in
        let e : labels t.text ≡ l ∷ ls = ap labels (same_equal t.text text f.1) ∙ labels-joined (l ∷ ls) plain in
        let h : HoldsEndings (earlier ++ []) (l ∷ ls) = subst (λ (x : List Tail). HoldsEndings x (l ∷ ls)) (sym (append-nil earlier)) (rw e at f.0) in
        h
    go None q h =
        let new : Tail = record { offset = at; text = text } in
        (holds_this earlier rest.tails at text, endings_more (earlier ++ rest.tails) (earlier ++ (new ∷ rest.tails)) (holds-between earlier rest.tails new) ls h)

-- the tails that it leaves are endings of its own
own_endings : (earlier : List Tail) (at : ℕ) (ls : List (List ℕ)) (all : List Tail) → Plain ls → HoldsEndings all ls → Every (λ t. HoldsEndings all (labels t.text)) (write_labels earlier at ls).tails
unfolding write_labels
own_endings earlier at [] all plain h = tt
own_endings earlier at (l ∷ ls) all plain h = go (find earlier (joined (l ∷ ls))) (own_endings earlier (at + (1 + length l)) ls all plain.1 h.1)
  where
    rest : Writing
    rest = write_labels earlier (at + (1 + length l)) ls

    go : (f : Option Tail) → Every (λ t. HoldsEndings all (labels t.text)) rest.tails → Every (λ t. HoldsEndings all (labels t.text)) (pointer_or f (literally at (joined (l ∷ ls)) l rest)).tails
    go (Some t) r = tt
    go None r = (rw (labels-joined (l ∷ ls) plain) h, r)

pub closed_after : (earlier : List Tail) (at : ℕ) (ls : List (List ℕ)) → Plain ls → Closed earlier → Closed (earlier ++ (write_labels earlier at ls).tails)
closed_after earlier at ls plain closed =
    let own : List Tail = (write_labels earlier at ls).tails in
    let all : List Tail = earlier ++ own in
    every_append (λ t. HoldsEndings all (labels t.text)) earlier own
    (every_weaken (λ t. HoldsEndings earlier (labels t.text)) (λ t. HoldsEndings all (labels t.text)) (λ t. endings_more earlier all (holds-before earlier own) (labels t.text)) earlier closed)
    (own_endings earlier at ls all plain (endings_held earlier at ls plain closed))
