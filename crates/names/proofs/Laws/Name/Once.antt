-- A tail is literally written at most once, so the first that fits is the only one, and the lowest.
use Rattle.std.proofs.Common.{Option, None, Some}
use mathlib.Core.Path.{◌≡◌, refl, sym, ap, ◌∙◌}
use mathlib.Core.Bool.{Bool, true, false}
use mathlib.Core.List.{List, [], ◌∷◌, ◌++◌, append_assoc, append-nil}
use Prim.Native.Nat.{ℕ, ◌+◌, ◌<◌, ◌≤◌}
use native.Mathlib.Omega.{arith}
use lib.ListN.{length}
use Rattle.octets.specs.Label.{labels, joined}
use Rattle.octets.proofs.Laws.Label.{Plain, joined_shorter}
use Rattle.octets.specs.Lists.{first}
use Rattle.octets.proofs.Laws.Lists.{Every, true_not_false, every_weaken, not_found, Unique, unique-append}
use Rattle.octets.specs.Text.{same}
use Rattle.octets.proofs.Laws.Text.{same_equal, same_self, same_lengths}
use Rattle.names.specs.Name.{Tail, Writing, literally, pointer_or, write_labels, write_name, write_names}

-- two tails of the same text
abbrev pub alike : Tail → Tail → Bool
alike t u = same t.text u.text

-- tails that a name adds: none like an earlier one, none like another of its own
abbrev Fresh : List Tail → List (List ℕ) → List Tail → Type 0
Fresh earlier ls ts = Every (λ u. (length u.text ≤ length (joined ls)) × Every (λ t. alike t u ≡ false) earlier) ts × Unique alike ts

labels_fresh : (earlier : List Tail) (at : ℕ) (ls : List (List ℕ)) → Plain ls → Fresh earlier ls (write_labels earlier at ls).tails
unfolding write_labels
labels_fresh earlier at [] plain = (tt, tt)
labels_fresh earlier at (l ∷ ls) plain =
    go (first (λ t. same t.text (joined (l ∷ ls))) earlier) refl (labels_fresh earlier (at + (1 + length l)) ls plain.1)
  where
    rest : Writing
    rest = write_labels earlier (at + (1 + length l)) ls

    here : Writing
    here = literally at (joined (l ∷ ls)) l rest

    less : length (joined ls) < length (joined (l ∷ ls))
    less = joined_shorter l ls plain.0.0

    go : (f : Option Tail) → first (λ t. same t.text (joined (l ∷ ls))) earlier ≡ f → Fresh earlier ls rest.tails → Fresh earlier (l ∷ ls) (pointer_or f here).tails
    go (Some t) q r = (tt, tt)
    go None q r =
        let P : Tail → Type 0 = λ u. (length u.text ≤ length (joined ls)) × Every (λ t. alike t u ≡ false) earlier in
        let m : length (joined ls) < length (joined (l ∷ ls)) = less in
        let a : Every (λ u. (length u.text ≤ length (joined (l ∷ ls))) × Every (λ t. alike t u ≡ false) earlier) rest.tails =
        every_weaken P (λ u. (length u.text ≤ length (joined (l ∷ ls))) × Every (λ t. alike t u ≡ false) earlier) (λ u h. (omega arith, h.1)) rest.tails r.0 in
        let b : Every (λ u. same (joined (l ∷ ls)) u.text ≡ false) rest.tails =
        every_weaken P (λ u. same (joined (l ∷ ls)) u.text ≡ false) (λ u h. same_lengths (joined (l ∷ ls)) u.text (λ e. omega arith)) rest.tails r.0 in
        (((omega arith, not_found (λ t. same t.text (joined (l ∷ ls))) earlier q), a), (b, r.1))

names-unique : (texts : List (List ℕ)) (earlier : List Tail) (at : ℕ) → Every (λ text. Plain (labels text)) texts → Unique alike earlier
    → Unique alike (earlier ++ (write_names earlier at texts).tails)
unfolding write_names write_name
names-unique [] earlier at plain old = rw (append-nil earlier) old
names-unique (text ∷ texts) earlier at plain old =
    let one : Writing = write_name earlier at text in
    let new : Fresh earlier (labels text) one.tails = labels_fresh earlier at (labels text) plain.0 in
    let none_like : Every (λ u. Every (λ t. alike t u ≡ false) earlier) one.tails =
    every_weaken (λ u. (length u.text ≤ length (joined (labels text))) × Every (λ t. alike t u ≡ false) earlier) (λ u. Every (λ t. alike t u ≡ false) earlier) (λ u h. h.1) one.tails new.0 in
    rw append_assoc at (names-unique texts (earlier ++ one.tails) (at + length one.octets) plain.1 (unique-append alike earlier one.tails old new.1 none_like))

pub written_once : (texts : List (List ℕ)) (at : ℕ) → Every (λ text. Plain (labels text)) texts → Unique alike (write_names [] at texts).tails
written_once texts at plain = names-unique texts [] at plain tt

-- where no two tails are alike, the first that fits is the only one, and so the lowest
pub first-lowest : (tails : List Tail) (text : List ℕ) (t : Tail) → Unique alike tails → first (λ u. same u.text text) tails ≡ Some t
    → Every (λ u. same u.text text ≡ true → t.offset ≤ u.offset) tails
unfolding first
first-lowest [] text t h e = tt
first-lowest (x ∷ xs) text t h e = go (same x.text text) refl (λ q. first-lowest xs text t h.1 q)
  where
    Low : Tail → Type 0
    Low u = same u.text text ≡ true → t.offset ≤ u.offset

    other : (u : Tail) → same x.text text ≡ true → alike x u ≡ false → same u.text text ≡ true → ⊥
    other u q n p =
        let a : x.text ≡ u.text = same_equal x.text text q ∙ sym (same_equal u.text text p) in
        true_not_false (sym (same_self x.text) ∙ ap (same x.text) a ∙ n)

    go : (b : Bool) → same x.text text ≡ b → (first (λ u. same u.text text) xs ≡ Some t → Every Low xs) → Every Low (x ∷ xs)
    go true q f =
        let s : Some x ≡ Some t = rw q at e in
        let k : x ≡ t = cc in
        let here : x.offset ≡ t.offset = ap (λ (u : Tail). u.offset) k in
        ((λ p. omega arith), every_weaken (λ u. alike x u ≡ false) Low (λ u n p. absurd (other u q n p)) xs h.0)
    go false q f = ((λ p. absurd (true_not_false (sym p ∙ q))), f (rw q at e))
