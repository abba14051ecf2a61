-- Each of the replies compared reads back: after what was written before it, every name walks to its labels.
use mathlib.Core.Path.{◌≡◌, refl, sym, ap, ◌∙◌, subst}
use mathlib.Core.List.{List, [], ◌∷◌, ◌++◌, map, map-append, append_assoc, Memᴰ as Among}
use Prim.Native.Nat.{ℕ, suc, ◌+◌, ◌≤◌}
use native.Mathlib.Omega.{arith}
use lib.ListN.{length, length-append}
use Rattle.names.specs.Name.{Tail, pointer_to, literal_label}
use Rattle.names.specs.WalkRelation.{Walks}
use Rattle.names.proofs.Laws.Name.{Ready, ready_later, Written, end-written, label-written, pointer-written}
use Rattle.names.proofs.Laws.Walk.{longer, finds}
use Rattle.octets.specs.Label.{labels, joined}
use Rattle.octets.proofs.Laws.Label.{Plain, labels-joined}
use Rattle.octets.proofs.Laws.Lists.{Every, every_append}
use Rattle.shortest.specs.Shortest.{Field, Placed, NameWritten, ended, label, pointer, FieldsWritten, done, field, named, texts_of, SaysNames}

-- what holds of each holds of one among them
pub every_among : {A : Type 0} (P : A → Type 0) {x : A} {xs : List A} → Every P xs → Among x xs → P x
every_among P h (Among.head e) = subst P (sym e) h.0
every_among P h (Among.tail m) = every_among P h.1 m

-- a literally written label, as a tail
abbrev tail : Placed → Tail
tail n = record { offset = n.offset; text = n.text }

among-tails : {n : Placed} {places : List Placed} → Among n places → Among (tail n) (map tail places)
among-tails (Among.head e) = Among.head (ap tail e)
among-tails (Among.tail m) = Among.tail (among-tails m)

-- one name after p, in a run that starts at `run`
name-reads : {earlier own : List Placed} {at : ℕ} {ls : List (List ℕ)} {s : List ℕ} (k run : ℕ) (p : List ℕ) → length p ≡ at → run ≤ at → Plain ls
    → Every (Ready k run p) (map tail earlier) → NameWritten earlier at ls s own → Written k run at ls (p ++ s) (map tail own)
unfolding literal_label pointer_to
name-reads k run p e h plain ready ended = subst (λ (x : ℕ). Written k run x [] (p ++ (0 ∷ [])) []) e (end-written k run p)
name-reads {earlier = earlier} k run p e h plain ready (label {at = at} {l = l} {ls = ls} {s = s} {own = own} w) =
    let n : length (p ++ literal_label l) ≡ at + (1 + length l) = simp length-append (omega arith) in
    let rest = name-reads k run (p ++ literal_label l) n (omega arith) plain.1 (ready_later k k run run p (literal_label l) (omega arith) (omega arith) (map tail earlier) ready) w in
    subst (λ (x : ℕ). Written k run x (l ∷ ls) (p ++ (literal_label l ++ s)) (record { offset = x; text = joined (l ∷ ls) } ∷ map tail own)) e
    (label-written k run p l ls plain s (map tail own) (omega arith) (subst (λ (x : ℕ). Written k run (x + (1 + length l)) ls ((p ++ literal_label l) ++ s) (map tail own)) (sym e) rest))
name-reads k run p e h plain ready (pointer {ls = ls} {t = t} m q low) =
    subst (λ (x : ℕ). Written k run x ls (p ++ pointer_to t.offset) []) e
    (pointer-written k run p (tail t) ls (ap labels q ∙ labels-joined ls plain) low (every_among (Ready k run p) ready (among-tails m)))

-- a name is found at its place
abbrev Walked : List ℕ → Placed → Type 0
Walked s n = (count : ℕ) × (next : ℕ) × Walks s n.offset n.offset (labels n.text) count next

fields_read : {earlier places : List Placed} {at : ℕ} {fields : List Field} {s : List ℕ} (k : ℕ) (p : List ℕ) → length p ≡ at → Every (λ text. Plain (labels text)) (texts_of fields)
    → Every (Ready k at p) (map tail earlier) → FieldsWritten earlier at fields s places → Every (Walked (p ++ s)) places
fields_read k p e plain ready done = tt
fields_read k p e plain ready (field {earlier = earlier} {at = at} {s = s} w) =
    let n : length (p ++ s) ≡ at + length s = simp length-append (omega arith) in
    rw append_assoc at (fields_read k (p ++ s) n plain (ready_later k k at (at + length s) p s (omega arith) (omega arith) (map tail earlier) ready) w)
fields_read k p e plain ready (named {earlier = earlier} {own = own} {places = places} {at = at} {text = text} {s = s} {rest = rest} one w) =
    let r = name-reads k at p e (omega arith) plain.0 ready one in
    let n : length (p ++ s) ≡ at + length s = simp length-append (omega arith) in
    let old : Every (Ready (suc k) (at + length s) (p ++ s)) (map tail earlier) = ready_later k (suc k) at (at + length s) p s (omega arith) (omega arith) (map tail earlier) ready in
    let new : Every (Ready (suc k) (at + length s) (p ++ s)) (map tail own) = rw n at r.ready in
    let all : Every (Ready (suc k) (at + length s) (p ++ s)) (map tail (earlier ++ own)) = rw map-append (every_append (Ready (suc k) (at + length s) (p ++ s)) (map tail earlier) (map tail own) old new) in
    let after : Every (Walked ((p ++ s) ++ rest)) places = fields_read (suc k) (p ++ s) n plain.1 all w in
    let here : Walked ((p ++ s) ++ rest) (record { offset = at; text = text }) = (r.count, length (p ++ s), longer rest r.walks) in
    subst (λ (x : List ℕ). Every (Walked x) (record { offset = at; text = text } ∷ places)) (append_assoc p s rest) (here, after)

placed-texts : {earlier places : List Placed} {at : ℕ} {fields : List Field} {s : List ℕ} → FieldsWritten earlier at fields s places → map (λ n. n.text) places ≡ texts_of fields
placed-texts done = refl
placed-texts (field w) = placed-texts w
placed-texts (named {text = text} one w) = ap (λ (l : List (List ℕ)). text ∷ l) (placed-texts w)

pub says_names : {places : List Placed} {fields : List Field} {s : List ℕ} → Every (λ text. Plain (labels text)) (texts_of fields) → FieldsWritten [] 0 fields s places → SaysNames fields s places
says_names plain w = record { texts = placed-texts w; reads = λ n m. let found = every_among (Walked _) (fields_read 0 [] refl plain tt w) m in (found.0, finds found.2) }
