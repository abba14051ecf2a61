-- What is written as a name walks back to its labels, with pointers no more than the labels and than the names before it.
use Rattle.std.proofs.Common.{Option, None, Some}
use mathlib.Core.Path.{◌≡◌, refl, sym, ap, ap₂, ◌∙◌, subst}
use mathlib.Core.Bool.{true}
use mathlib.Core.List.{List, [], ◌∷◌, ◌++◌, append_assoc, append-nil}
use Prim.Native.Nat.{ℕ, zero, suc, ◌+◌, ◌/◌, ◌%◌, ◌<◌, ◌≤◌}
use native.Mathlib.Omega.{arith}
use lib.ListN.{length, get_or, take, length-append}
use lib.Seq.{get_or-append_seam, drop-append_seam, drop-append-add, take-append_seam}
use Rattle.octets.specs.Label.{labels, joined}
use Rattle.octets.proofs.Laws.Label.{Plain, size, size_positive, labels-joined}
use Rattle.octets.specs.Lists.{first, cut}
use Rattle.octets.proofs.Laws.Lists.{Every, every_append, every_weaken, found}
use Rattle.octets.specs.Number.{big, big_octets, little_octets}
use Rattle.octets.proofs.Laws.Number.{big-back}
use Rattle.octets.specs.Text.{same}
use Rattle.octets.proofs.Laws.Text.{same_equal}
use Rattle.names.specs.Name.{Tail, Writing, pointer_to, literal_label, literally, pointer_or, write_labels, write_name, write_names}
use Rattle.names.specs.Walk as walk
use Rattle.names.specs.WalkRelation.{Walks, ends, reads, points}
use Rattle.names.proofs.Laws.Walk.{look_end, look_label, look_pointer, later, longer}
pub mod Once

-- ---- tails that can be pointed to

-- from a name at place k whose run starts at `run`: a pointer to the tail leads to its labels
pub record Ready (k run : ℕ) (s : List ℕ) (t : Tail) : Type 0 where
  pub count : ℕ
  pub next : ℕ
  pub below : t.offset < run
  pub by_place : count < k
  pub by_labels : count < length (labels t.text)
  pub walks : Walks s t.offset t.offset (labels t.text) count next

pub ready_later : (k k' run run' : ℕ) (s q : List ℕ) → k ≤ k' → run ≤ run' → (ts : List Tail) → Every (Ready k run s) ts → Every (Ready k' run' (s ++ q)) ts
ready_later k k' run run' s q a b ts h =
    every_weaken (Ready k run s) (Ready k' run' (s ++ q)) (λ t r.
    record { count = r.count; next = r.next; below = omega arith; by_place = omega arith; by_labels = r.by_labels; walks = longer q r.walks }) ts h

-- ---- the octets of a name

-- in s, which ends with the name: its labels at place k, and its tails ready for the names after it
pub record Written (k run at : ℕ) (ls : List (List ℕ)) (s : List ℕ) (ts : List Tail) : Type 0 where
  pub count : ℕ
  pub by_place : count ≤ k
  pub by_labels : count ≤ length ls
  pub walks : Walks s run at ls count (length s)
  pub ready : Every (Ready (suc k) (length s) s) ts

-- its last octet, after p
pub end-written : (k run : ℕ) (p : List ℕ) → Written k run (length p) [] (p ++ (0 ∷ [])) []
end-written k run p =
    let s : List ℕ = p ++ (0 ∷ []) in
    let n : length s ≡ length p + 1 = simp length-append in
    let h : length p < length s = omega arith in
    let w : Walks s run (length p) [] 0 (length p + 1) = ends (look_end s (length p) (h, get_or-append_seam p 0 [] 0)) in
    record { count = 0; by_place = omega arith; by_labels = omega arith; walks = subst (Walks s run (length p) [] 0) (sym n) w; ready = tt }

pointer_there : (p : List ℕ) (t : ℕ) → t < 0x4000 → walk.look_at (p ++ pointer_to t) (length p) ≡ walk.pointer t
unfolding pointer_to big_octets little_octets
pointer_there p t h =
    let s : List ℕ = p ++ pointer_to t in
    let n : length p + 2 ≤ length s = simp length-append (omega arith) in
    let x : get_or s (length p) 0 ≡ (0xC000 + t) / 256 % 256 = get_or-append_seam p ((0xC000 + t) / 256 % 256) (((0xC000 + t) % 256) ∷ []) 0 in
    let y : (0xC000 + t) / 256 % 256 / 64 ≡ 3 = omega arith in
    let c : cut s (length p) 2 ≡ big_octets 2 (0xC000 + t) = ap (take 2) (drop-append_seam p (pointer_to t)) in
    let e : big (big_octets 2 (0xC000 + t)) ≡ 0xC000 + t = big-back 2 (0xC000 + t) (omega arith) in
    let m : (0xC000 + t) % 0x4000 ≡ t = omega arith in
    look_pointer s (length p) t (n, ap (λ (z : ℕ). z / 64) x ∙ y, ap (λ (z : List ℕ). big z % 0x4000) c ∙ ap (λ (z : ℕ). z % 0x4000) e ∙ m)

-- a pointer to a tail that is ready, after p
pub pointer-written : (k run : ℕ) (p : List ℕ) (t : Tail) (ls : List (List ℕ)) → labels t.text ≡ ls → t.offset < 0x4000 → Ready k run p t → Written k run (length p) ls (p ++ pointer_to t.offset) []
unfolding pointer_to big_octets little_octets
pointer-written k run p t ls e h r =
    let s : List ℕ = p ++ pointer_to t.offset in
    let n : length s ≡ length p + 2 = simp length-append in
    let w : Walks s t.offset t.offset ls r.count r.next = longer (pointer_to t.offset) (rw e at r.walks) in
    let v : Walks s run (length p) ls (suc r.count) (length p + 2) = points (pointer_there p t.offset h) r.below w in
    let b : r.count < length ls = rw e at r.by_labels in
    record { count = suc r.count; by_place = omega arith; by_labels = omega arith; walks = subst (Walks s run (length p) ls (suc r.count)) (sym n) v; ready = tt }

module _ (k run : ℕ) (p l : List ℕ) (ls : List (List ℕ)) (plain : Plain (l ∷ ls)) where
  label_there : (q : List ℕ) → walk.look_at (p ++ (literal_label l ++ q)) (length p) ≡ walk.label (length l)
  unfolding literal_label
  label_there q =
      let n : length p < length (p ++ (literal_label l ++ q)) = simp length-append (omega arith) in
      look_label (p ++ (literal_label l ++ q)) (length p) (length l) (n, get_or-append_seam p (length l) (l ++ q) 0, plain.0.0, plain.0.1)

  -- a label, after p and before the rest of its name
  pub label-written : (q : List ℕ) (ts : List Tail) → run ≤ length p → Written k run (length p + (1 + length l)) ls ((p ++ literal_label l) ++ q) ts
      → Written k run (length p) (l ∷ ls) (p ++ (literal_label l ++ q)) (record { offset = length p; text = joined (l ∷ ls) } ∷ ts)
  unfolding literal_label
  label-written q ts h given =
      let s : List ℕ = p ++ (literal_label l ++ q) in
      let m : Written k run (length p + (1 + length l)) ls s ts = rw append_assoc at given in
      let a : length p + (1 + length l) ≡ length p + 1 + length l = omega arith in
      let n : length p + 1 + length l ≤ length s = simp length-append (omega arith) in
      let c : walk.label_at s (length p) (length l) ≡ l = ap (take (length l)) (drop-append-add p (literal_label l ++ q) 1) ∙ take-append_seam l q in
      let v : Walks s run (length p + 1 + length l) ls m.count (length s) = subst (λ (x : ℕ). Walks s run x ls m.count (length s)) a m.walks in
      let w : Walks s run (length p) (l ∷ ls) m.count (length s) = reads (label_there q) n c v in
      let e : labels (joined (l ∷ ls)) ≡ l ∷ ls = labels-joined (l ∷ ls) plain in
      let r : Ready (suc k) (length s) s (record { offset = length p; text = joined (l ∷ ls) }) =
      record {
        count = m.count;
        next = length s;
        below = omega arith;
        by_place = omega arith;
        by_labels = rw e (omega arith);
        walks = rw e (later (length p) h w);
      } in
      record { count = m.count; by_place = m.by_place; by_labels = omega arith; walks = w; ready = (r, m.ready) }

-- a name from a label on, written after p
pub labels-written : (earlier : List Tail) (k run : ℕ) (ls : List (List ℕ)) (p : List ℕ) (at : ℕ) → length p ≡ at → run ≤ at → at + size ls ≤ 0x4000
    → Every (Ready k run p) earlier → Plain ls
    → Written k run at ls (p ++ (write_labels earlier at ls).octets) (write_labels earlier at ls).tails
unfolding write_labels
labels-written earlier k run [] p at e h room ready plain = subst (λ (x : ℕ). Written k run x [] (p ++ (0 ∷ [])) []) e (end-written k run p)
labels-written earlier k run (l ∷ ls) p at e h room ready plain =
    let n : length (p ++ literal_label l) ≡ at + (1 + length l) = unfold literal_label in simp length-append (omega arith) in
    go (first (λ t. same t.text (joined (l ∷ ls))) earlier) refl
    (labels-written earlier k run ls (p ++ literal_label l) (at + (1 + length l)) n (omega arith) (omega arith)
    (ready_later k k run run p (literal_label l) (omega arith) (omega arith) earlier ready) plain.1)
  where
    rest : Writing
    rest = write_labels earlier (at + (1 + length l)) ls

    here : Writing
    here = literally at (joined (l ∷ ls)) l rest

    go : (f : Option Tail) → first (λ t. same t.text (joined (l ∷ ls))) earlier ≡ f
        → Written k run (at + (1 + length l)) ls ((p ++ literal_label l) ++ rest.octets) rest.tails
        → Written k run at (l ∷ ls) (p ++ (pointer_or f here).octets) (pointer_or f here).tails
    go None q w =
        subst (λ (x : ℕ). Written k run x (l ∷ ls) (p ++ (literal_label l ++ rest.octets)) (record { offset = x; text = joined (l ∷ ls) } ∷ rest.tails)) e
        (label-written k run p l ls plain rest.octets rest.tails (omega arith)
        (subst (λ (x : ℕ). Written k run (x + (1 + length l)) ls ((p ++ literal_label l) ++ rest.octets) rest.tails) (sym e) w))
    go (Some t) q w =
        let f : Ready k run p t × (same t.text (joined (l ∷ ls)) ≡ true) = found (λ t. same t.text (joined (l ∷ ls))) (Ready k run p) earlier t ready q in
        let x : labels t.text ≡ l ∷ ls = ap labels (same_equal t.text (joined (l ∷ ls)) f.1) ∙ labels-joined (l ∷ ls) plain in
        subst (λ (y : ℕ). Written k run y (l ∷ ls) (p ++ pointer_to t.offset) []) e (pointer-written k run p t (l ∷ ls) x (omega (arith, f.0.below)) f.0)

-- ---- how long names are

-- a name takes no more than its labels written out
pub labels-short : (earlier : List Tail) (at : ℕ) (ls : List (List ℕ)) → length (write_labels earlier at ls).octets ≤ size ls
unfolding write_labels literal_label pointer_to big_octets little_octets
labels-short earlier at [] = omega arith
labels-short earlier at (l ∷ ls) = go (first (λ t. same t.text (joined (l ∷ ls))) earlier) (labels-short earlier (at + (1 + length l)) ls)
  where
    rest : Writing
    rest = write_labels earlier (at + (1 + length l)) ls

    here : Writing
    here = literally at (joined (l ∷ ls)) l rest

    go : (f : Option Tail) → length rest.octets ≤ size ls → length (pointer_or f here).octets ≤ size (l ∷ ls)
    go None h = simp length-append (omega arith)
    go (Some t) h = omega (arith, size_positive ls)

abbrev pub sizes : List (List ℕ) → ℕ
sizes [] = 0
sizes (text ∷ texts) = size (labels text) + sizes texts

pub sizes_take : (k : ℕ) (texts : List (List ℕ)) → sizes (take k texts) ≤ sizes texts
sizes_take zero texts = omega arith
sizes_take (suc k) [] = omega arith
sizes_take (suc k) (text ∷ texts) = omega (arith, sizes_take k texts)

pub names-short : (texts : List (List ℕ)) (earlier : List Tail) (at : ℕ) → length (write_names earlier at texts).octets ≤ sizes texts
unfolding write_names write_name
names-short [] earlier at = omega arith
names-short (text ∷ texts) earlier at =
    let one : Writing = write_name earlier at text in
    simp length-append (omega (arith, labels-short earlier at (labels text), names-short texts (earlier ++ one.tails) (at + length one.octets)))

-- ---- names one after the other

-- where each name starts
abbrev pub starts : List Tail → ℕ → List (List ℕ) → List ℕ
starts earlier at [] = []
starts earlier at (text ∷ texts) = let one = write_name earlier at text in at ∷ starts (earlier ++ one.tails) (at + length one.octets) texts

-- from place k on: where names start, their texts, the pointers of each, and where the last field ends
pub data Row (s : List ℕ) : ℕ → ℕ → List ℕ → List (List ℕ) → List ℕ → ℕ → Type 0 where
  stops : {k at : ℕ} → Row s k at [] [] [] at
  goes : {k at c next end : ℕ} {text : List ℕ} {ats cs : List ℕ} {texts : List (List ℕ)} → c ≤ k → c ≤ length (labels text) → Walks s at at (labels text) c next
      → Row s (suc k) next ats texts cs end → Row s k at (at ∷ ats) (text ∷ texts) (c ∷ cs) end

pub row-longer : {s : List ℕ} {k at end : ℕ} {ats cs : List ℕ} {texts : List (List ℕ)} (q : List ℕ) → Row s k at ats texts cs end → Row (s ++ q) k at ats texts cs end
row-longer q stops = stops
row-longer q (goes a b w r) = goes a b (longer q w) (row-longer q r)

-- the name at one place of a row
pub record Spot (s : List ℕ) (at k : ℕ) (text : List ℕ) (count : ℕ) : Type 0 where
  pub next : ℕ
  pub by_place : count ≤ k
  pub by_labels : count ≤ length (labels text)
  pub walks : Walks s at at (labels text) count next

pub row_spot : {s : List ℕ} {k at end : ℕ} {ats cs : List ℕ} {texts : List (List ℕ)} → Row s k at ats texts cs end → (i : ℕ) → i < length texts
    → Spot s (get_or ats i 0) (k + i) (get_or texts i []) (get_or cs i 0)
row_spot stops i h = absurd (omega arith)
row_spot {k = k} (goes {c = c} {next = n} a b w r) zero h = record { next = n; by_place = omega arith; by_labels = b; walks = w }
row_spot {k = k} (goes a b w r) (suc i) h =
    let d = row_spot r i (omega arith) in
    record { next = d.next; by_place = omega arith; by_labels = d.by_labels; walks = d.walks }

-- in s, which ends with the names: each at its place, and all tails ready for a name after them
pub record Chain (k at : ℕ) (earlier : List Tail) (texts : List (List ℕ)) (s : List ℕ) : Type 0 where
  pub counts : List ℕ
  pub row : Row s k at (starts earlier at texts) texts counts (length s)
  pub ready : Every (Ready (k + length texts) (length s) s) (earlier ++ (write_names earlier at texts).tails)

pub names-written : (texts : List (List ℕ)) (earlier : List Tail) (k : ℕ) (p : List ℕ) (at : ℕ) → length p ≡ at → at + sizes texts ≤ 0x4000
    → Every (Ready k at p) earlier → Every (λ text. Plain (labels text)) texts
    → Chain k at earlier texts (p ++ (write_names earlier at texts).octets)
unfolding write_names write_name
names-written [] earlier k p at e room ready plain =
    let n : length (p ++ []) ≡ at = simp length-append (omega arith) in
    record {
      counts = [];
      row = subst (λ (x : ℕ). Row (p ++ []) k at [] [] [] x) (sym n) stops;
      ready = rw (append-nil earlier) (ready_later k (k + 0) at (length (p ++ [])) p [] (omega arith) (omega arith) earlier ready);
    }
names-written (text ∷ texts) earlier k p at e room ready plain =
    let one : Writing = write_name earlier at text in
    let w : Written k at at (labels text) (p ++ one.octets) one.tails = labels-written earlier k at (labels text) p at e (omega arith) (omega arith) ready plain.0 in
    let n : length (p ++ one.octets) ≡ at + length one.octets = simp length-append (omega arith) in
    let short : length one.octets ≤ size (labels text) = labels-short earlier at (labels text) in
    let old : Every (Ready (suc k) (at + length one.octets) (p ++ one.octets)) earlier =
    ready_later k (suc k) at (at + length one.octets) p one.octets (omega arith) (omega arith) earlier ready in
    let new : Every (Ready (suc k) (at + length one.octets) (p ++ one.octets)) one.tails = rw n at w.ready in
    let more : Writing = write_names (earlier ++ one.tails) (at + length one.octets) texts in
    let rest = names-written texts (earlier ++ one.tails) (suc k) (p ++ one.octets) (at + length one.octets) n (omega arith)
    (every_append (Ready (suc k) (at + length one.octets) (p ++ one.octets)) earlier one.tails old new) plain.1 in
    let s : List ℕ = p ++ one.octets ++ more.octets in
    let walks : Walks s at at (labels text) w.count (at + length one.octets) =
    longer more.octets (subst (λ (x : ℕ). Walks (p ++ one.octets) at at (labels text) w.count x) n w.walks) in
    let sum : suc k + length texts ≡ k + suc (length texts) = omega arith in
    let tails : Every (Ready (suc k + length texts) (length s) s) (earlier ++ (one.tails ++ more.tails)) = rw (append_assoc earlier one.tails more.tails) at rest.ready in
    subst (Chain k at earlier (text ∷ texts)) (append_assoc p one.octets more.octets)
    (record {
      counts = w.count ∷ rest.counts;
      row = goes {cs = rest.counts} w.by_place w.by_labels walks rest.row;
      ready = subst (λ (x : ℕ). Every (Ready x (length s) s) (earlier ++ (one.tails ++ more.tails))) sum tails;
    })

-- one name more, after all the others
pub names_more : (texts : List (List ℕ)) (earlier : List Tail) (at : ℕ) (text : List ℕ)
    → (let w = write_names earlier at texts in
    let one = write_name (earlier ++ w.tails) (at + length w.octets) text in
    write_names earlier at (texts ++ (text ∷ [])) ≡ record { octets = w.octets ++ one.octets; tails = w.tails ++ one.tails })
unfolding write_names
names_more [] earlier at text =
    let one : Writing = write_name earlier at text in
    let e : at ≡ at + 0 = omega arith in
    ap₂ (λ (x : List ℕ) (y : List Tail). record { octets = x; tails = y }) (append-nil one.octets) (append-nil one.tails)
    ∙ ap₂ (λ (ts : List Tail) (n : ℕ). write_name ts n text) (sym (append-nil earlier)) e
names_more (first ∷ texts) earlier at text =
    let a : Writing = write_name earlier at first in
    let w : Writing = write_names (earlier ++ a.tails) (at + length a.octets) texts in
    let e : at + length a.octets + length w.octets ≡ at + length (a.octets ++ w.octets) = simp length-append (omega arith) in
    ap (λ (r : Writing). record { octets = a.octets ++ r.octets; tails = a.tails ++ r.tails }) (names_more texts (earlier ++ a.tails) (at + length a.octets) text)
    ∙ ap₂ (λ (ts : List Tail) (n : ℕ). let one = write_name ts n text in record { octets = a.octets ++ (w.octets ++ one.octets); tails = a.tails ++ (w.tails ++ one.tails) })
    (append_assoc earlier a.tails w.tails) e
    ∙ (let one : Writing = write_name (earlier ++ (a.tails ++ w.tails)) (at + length (a.octets ++ w.octets)) text in
    ap₂ (λ (x : List ℕ) (y : List Tail). record { octets = x; tails = y })
    (sym (append_assoc a.octets w.octets one.octets)) (sym (append_assoc a.tails w.tails one.tails)))
