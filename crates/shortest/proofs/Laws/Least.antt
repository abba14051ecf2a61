-- Compared field by field: document 01's reply is one of those compared, and no longer than any.
use Rattle.std.proofs.Common.{Option, None, Some, is_some}
use mathlib.Core.Path.{◌≡◌, refl, sym, subst}
use mathlib.Core.Bool.{true}
use mathlib.Core.List.{List, [], ◌∷◌, ◌++◌, map, map-append, Memᴰ as Among}
use Prim.Native.Nat.{ℕ, ◌+◌, ◌<◌, ◌≤◌}
use native.Mathlib.Omega.{arith}
use lib.ListN.{length, length-append}
use Rattle.names.specs.Name.{Tail, Writing, pointer_to, literal_label, literally, pointer_or, write_labels, write_name}
use Rattle.octets.specs.Label.{labels, joined}
use Rattle.octets.specs.Number.{big_octets, little_octets}
use Rattle.octets.specs.Text.{same}
use Rattle.octets.proofs.Laws.Label.{Plain}
use Rattle.octets.proofs.Laws.Lists.{Every, every_append, every_weaken, found, true_not_false}
use Rattle.octets.proofs.Laws.Text.{same_equal}
use Rattle.shortest.specs.Shortest.{Field, fixed, name, Placed, NameWritten, ended, label, pointer, FieldsWritten, done, field, named, texts_of}
use Rattle.shortest.specs.Internal.ByField.{written}
use Rattle.shortest.proofs.Laws.ReadBack.{every_among}
use Rattle.shortest.proofs.Laws.Endings.{find, Holds, HoldsEndings, Closed, endings_held, closed_after, holds-before}

-- ---- none is shorter

-- the writer has each literally written label of some others among its tails
abbrev Holding : List Tail → List Placed → Type 0
Holding tails = Every (λ n. Holds tails n.text)

-- some octet ends a name
some_octet : {earlier own : List Placed} {at : ℕ} {ls : List (List ℕ)} {s : List ℕ} → NameWritten earlier at ls s own → 1 ≤ length s
some_octet ended = omega arith
some_octet (label w) = omega arith
some_octet (pointer m e low) = unfold big_octets little_octets in omega arith

-- where it can point, it points as early as any
name-least : {earlier own : List Placed} {at : ℕ} {ls : List (List ℕ)} {s : List ℕ} (tails : List Tail) (from : ℕ) → Holding tails earlier → NameWritten earlier at ls s own
    → length (write_labels tails from ls).octets ≤ length s
unfolding write_labels literal_label pointer_to big_octets little_octets
name-least tails from h ended = omega arith
name-least tails from h (label {l = l} {ls = ls} {s = s} w) = go (find tails (joined (l ∷ ls))) (name-least tails (from + (1 + length l)) h w)
  where
    rest : Writing
    rest = write_labels tails (from + (1 + length l)) ls

    go : (f : Option Tail) → length rest.octets ≤ length s → length (pointer_or f (literally from (joined (l ∷ ls)) l rest)).octets ≤ length ((length l ∷ l) ++ s)
    go None r = simp length-append (omega arith)
    go (Some t) r = simp length-append (omega (arith, some_octet w))
name-least tails from h (pointer {ls = ls} {t = t} m e low) = go ls (subst (Holds tails) e (every_among (λ n. Holds tails n.text) h m))
  where
    here : List ℕ → List (List ℕ) → Writing
    here l rest = literally from (joined (l ∷ rest)) l (write_labels tails (from + (1 + length l)) rest)

    points : (l : List ℕ) (rest : List (List ℕ)) (f : Option Tail) → is_some f ≡ true → length (pointer_or f (here l rest)).octets ≤ 2
    points l rest None q = absurd (true_not_false (sym q))
    points l rest (Some u) q = omega arith

    go : (left : List (List ℕ)) → Holds tails (joined left) → length (write_labels tails from left).octets ≤ 2
    go [] q = omega arith
    go (l ∷ rest) q = points l rest (find tails (joined (l ∷ rest))) q

-- the labels that a name has written literally are endings of its own
literal_endings : {earlier own : List Placed} {at : ℕ} {ls : List (List ℕ)} {s : List ℕ} (tails : List Tail) → HoldsEndings tails ls → NameWritten earlier at ls s own → Holding tails own
literal_endings tails h ended = tt
literal_endings tails h (label w) = (h.0, literal_endings tails h.1 w)
literal_endings tails h (pointer m e low) = tt

pub least : {earlier places : List Placed} {at : ℕ} {fields : List Field} {s : List ℕ} (tails : List Tail) (from : ℕ) → Closed tails → Holding tails earlier
    → Every (λ text. Plain (labels text)) (texts_of fields) → FieldsWritten earlier at fields s places → length (written tails from fields) ≤ length s
unfolding written write_name
least tails from closed h plain done = omega arith
least tails from closed h plain (field {s = s} w) = simp length-append (omega (arith, least tails (from + length s) closed h plain w))
least tails from closed h plain (named {earlier = earlier} {own = own} {text = text} one w) =
    let now : Writing = write_labels tails from (labels text) in
    let all : List Tail = tails ++ now.tails in
    let before : Holding all earlier = every_weaken (λ n. Holds tails n.text) (λ n. Holds all n.text) (λ n. holds-before tails now.tails n.text) earlier h in
    let after : Holding all own = literal_endings all (endings_held tails from (labels text) plain.0 closed) one in
    let rest = least all (from + length now.octets) (closed_after tails from (labels text) plain.0 closed) (every_append (λ n. Holds all n.text) earlier own before after) plain.1 w in
    simp length-append (omega (arith, name-least tails from h one))

-- ---- document 01's reply is one of them

-- a tail, as a literally written label
abbrev pub literal : Tail → Placed
literal t = record { offset = t.offset; text = t.text }

among_self : (tails : List Tail) → Every (λ t. Among (literal t) (map literal tails)) tails
among_self [] = tt
among_self (t ∷ tails) =
    (Among.head refl, every_weaken (λ u. Among (literal u) (map literal tails)) (λ u. Among (literal u) (map literal (t ∷ tails))) (λ u m. Among.tail m) tails (among_self tails))

-- a tail whose offset a pointer can say
abbrev Low : Tail → Type 0
Low t = t.offset < 0x4000

name-compared : (tails : List Tail) (at : ℕ) (ls : List (List ℕ)) → Every Low tails
    → NameWritten (map literal tails) at ls (write_labels tails at ls).octets (map literal (write_labels tails at ls).tails)
unfolding write_labels literal_label pointer_to
name-compared tails at [] low = ended
name-compared tails at (l ∷ ls) low = go (find tails text) refl (name-compared tails (at + (1 + length l)) ls low)
  where
    text : List ℕ
    text = joined (l ∷ ls)

    rest : Writing
    rest = write_labels tails (at + (1 + length l)) ls

    here : Writing
    here = literally at text l rest

    go : (f : Option Tail) → find tails text ≡ f → NameWritten (map literal tails) (at + (1 + length l)) ls rest.octets (map literal rest.tails)
        → NameWritten (map literal tails) at (l ∷ ls) (pointer_or f here).octets (map literal (pointer_or f here).tails)
    go None q w = label w
    go (Some t) q w =
        let there = found (λ t. same t.text text) (λ t. Among (literal t) (map literal tails)) tails t (among_self tails) q in
        pointer {t = literal t} there.0 (same_equal t.text text there.1) (found (λ t. same t.text text) Low tails t low q).0

-- the tails of a name stand within its octets
own-low : (tails : List Tail) (at : ℕ) (ls : List (List ℕ)) → at + length (write_labels tails at ls).octets ≤ 0x4000 → Every Low (write_labels tails at ls).tails
unfolding write_labels literal_label
own-low tails at [] room = tt
own-low tails at (l ∷ ls) room = go (find tails (joined (l ∷ ls))) room (λ h. own-low tails (at + (1 + length l)) ls h)
  where
    rest : Writing
    rest = write_labels tails (at + (1 + length l)) ls

    here : Writing
    here = literally at (joined (l ∷ ls)) l rest

    go : (f : Option Tail) → at + length (pointer_or f here).octets ≤ 0x4000 → (at + (1 + length l) + length rest.octets ≤ 0x4000 → Every Low rest.tails) → Every Low (pointer_or f here).tails
    go None h r = let n : length (l ++ rest.octets) ≡ length l + length rest.octets = length-append l rest.octets in (omega arith, r (omega arith))
    go (Some t) h r = tt

pub fields_compared : (fields : List Field) (tails : List Tail) (at : ℕ) → Every Low tails → at + length (written tails at fields) ≤ 0x4000
    → (places : List Placed) × FieldsWritten (map literal tails) at fields (written tails at fields) places
unfolding written write_name
fields_compared [] tails at low room = ([], done)
fields_compared (fixed s ∷ fields) tails at low room =
    let n : length (s ++ written tails (at + length s) fields) ≡ length s + length (written tails (at + length s) fields) = length-append s (written tails (at + length s) fields) in
    let rest = fields_compared fields tails (at + length s) low (omega arith) in
    (rest.0, field rest.1)
fields_compared (name text ∷ fields) tails at low room =
    let one : Writing = write_labels tails at (labels text) in
    let more : List ℕ = written (tails ++ one.tails) (at + length one.octets) fields in
    let n : length (one.octets ++ more) ≡ length one.octets + length more = length-append one.octets more in
    let rest = fields_compared fields (tails ++ one.tails) (at + length one.octets) (every_append Low tails one.tails low (own-low tails at (labels text) (omega arith))) (omega arith) in
    (record { offset = at; text = text } ∷ rest.0, named (name-compared tails at (labels text) low) (rw (map-append literal tails one.tails) at rest.1))
