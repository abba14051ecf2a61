-- The places that the layout and the walk give: a field ends where the walk leaves it, a text where the reader does, and names in a row start one after the other.
use Rattle.std.proofs.Common.{Ok}
use mathlib.Core.Path.{◌≡◌, refl, sym, ap, ◌∙◌, subst}
use mathlib.Core.Bool.{Bool, true, false, cond, not}
use mathlib.Core.List.{List}
use Prim.Native.Nat.{ℕ, zero, suc, ◌+◌, ◌-◌, ◌<◌, ◌≤◌}
use native.Mathlib.Omega.{arith}
use lib.Dec.{eqb, ltb}
use lib.ListN.{length, get_or}
use Rattle.answers.specs.declared.Form.{Form}
use Rattle.answers.specs.declared.Refusal.TheVariants.{ReplyCut, ReplyOpcode, ReplyText}
use Rattle.answers.specs.Try.{Try, ◌>>=◌}
use Rattle.answers.specs.Wire.{older_opcodes, is_one_of}
use Rattle.answers.proofs.Laws.Try.{refused_not_good, refused_if-good, good_then}
use Rattle.names.specs.WalkRelation.{Walks, ends, reads, points}
use Rattle.names.proofs.Laws.Name.{Row, stops, goes}
use Rattle.names.proofs.Laws.Walk.{walk_inside}
use Rattle.octets.specs.Lists.{cut}
use Rattle.octets.specs.Number.{little, u16_at}
use Rattle.unicode_text.specs.Utf16.{is_high, is_low}
use Rattle.octets.specs.declared.part.Stretch.{Stretch}
use Rattle.reader.specs.declared.field.Read.{Read}
use Rattle.reader.specs.Field.{read_octets}
use Rattle.reader.specs.declared.text.Unit16.TheVariants.{Ends, Plain, High, Low}
use Rattle.reader.specs.Text.{unit_of, turn, on_turn, read_text_from, read_text}
use Rattle.reader.specs.Reader.{Opening, read_opcode, read_opening}
use Rattle.reader.proofs.Laws.Reader.{NamesRow}
use Rattle.demands.specs.Places.{field_end_from, field_end, text_end_from, text_end, names_start, name_start}

-- ---- names

field-from : {s : List ℕ} {run at c next : ℕ} {ls : List (List ℕ)} → Walks s run at ls c next → (k : ℕ) → length s ≤ at + k → field_end_from k s at ≡ next
unfolding field_end_from
field-from w zero h = absurd (omega (arith, walk_inside w))
field-from (ends e) (suc k) h = rw e
field-from {at = at} (reads {n = n} e inside l w) (suc k) h = rw e (field-from {at = at + 1 + n} w k (omega arith))
field-from (points e below w) (suc k) h = rw e

field-ends : {s : List ℕ} {run at c next : ℕ} {ls : List (List ℕ)} → Walks s run at ls c next → field_end s at ≡ next
unfolding field_end
field-ends {s} w = field-from w (length s) (omega arith)

-- places of which each next one is where the field before it ends: those of names in a row, and after them its end
module _ {s : List ℕ} where
  row-places : {k at end : ℕ} {ats cs : List ℕ} {texts : List (List ℕ)} → Row s k at ats texts cs end → (place : ℕ → ℕ) → place 0 ≡ at → ((i : ℕ) → place (suc i) ≡ field_end s (place i))
      → (i : ℕ) → i < length texts → place i ≡ get_or ats i 0
  row-places stops place e next i h = absurd (omega arith)
  row-places (goes a b w r) place e next zero h = e
  row-places (goes a b w r) place e next (suc i) h = row-places r (λ j. place (suc j)) (next 0 ∙ ap (field_end s) e ∙ field-ends w) (λ j. next (suc j)) i (omega arith)

  row-end : {k at end : ℕ} {ats cs : List ℕ} {texts : List (List ℕ)} → Row s k at ats texts cs end → (place : ℕ → ℕ) → place 0 ≡ at → ((i : ℕ) → place (suc i) ≡ field_end s (place i))
      → place (length texts) ≡ end
  row-end stops place e next = e
  row-end (goes a b w r) place e next = row-end r (λ j. place (suc j)) (next 0 ∙ ap (field_end s) e ∙ field-ends w) (λ j. next (suc j))

-- names of a reply that stand in a row from where those of its form start
module _ (form : Form) {s : List ℕ} {at : ℕ} {texts : List (List ℕ)} {octets : List ℕ} (row : NamesRow s at texts octets) (first : names_start form s ≡ at) where
  pub name-placed : (i : ℕ) → i < length texts → name_start form s i ≡ get_or row.starts i 0
  unfolding name_start
  name-placed = row-places row.row (name_start form s) first (λ i. refl)

  pub names-end : name_start form s (length texts) ≡ at + length octets
  unfolding name_start
  names-end = row-end row.row (name_start form s) first (λ i. refl)

-- ---- texts

-- octets that are all there
octets-read : (s : List ℕ) (at n : ℕ) (f : Read (List ℕ)) → read_octets s at n ≡ Ok f → record { value = cut s at n; next = at + n } ≡ f
unfolding read_octets
octets-read s at n f e = let g = (refused_if-good (ltb (length s) (at + n)) ReplyCut _ f e).1 in cc

text-from : (k : ℕ) (s : List ℕ) (start at : ℕ) (after_high_lem : Bool) (f : Read Stretch) → read_text_from k s start at after_high_lem ≡ Ok f → text_end_from k s at ≡ f.next
unfolding read_text_from text_end_from unit_of
text-from zero s start at after_high_lem f e = absurd (refused_not_good ReplyCut f e)
text-from (suc k) s start at after_high_lem f e =
    let u = good_then (read_octets s at 2) _ f e in
    let here = subst After (sym (octets-read s at 2 u.0 u.1)) u.2 in
    by after_high_lem (eqb (u16_at s at) 0) (is_high (u16_at s at)) (is_low (u16_at s at)) here (λ h q. text-from k s start (at + 2) h f q)
  where
    After : Read (List ℕ) → Type 0
    After x =
        on_turn (turn after_high_lem (unit_of (little x.value))) (Ok (record { value = record { start = start; len = at - start }; next = x.next })) (λ h. read_text_from k s start x.next h)
        ≡ Ok f

    by : (h end p q : Bool)
        → on_turn (turn h (cond end Ends (cond p High (cond q Low Plain)))) (Ok (record { value = record { start = start; len = at - start }; next = at + 2 })) (λ g. read_text_from k s start (at + 2) g) ≡ Ok f
        → ((g : Bool) → read_text_from k s start (at + 2) g ≡ Ok f → text_end_from k s (at + 2) ≡ f.next)
        → elim end as (λ b. ℕ) [ true ↦ at + 2 | false ↦ text_end_from k s (at + 2) ] ≡ f.next
    by false true p q e deeper = cc
    by true true p q e deeper = absurd (refused_not_good ReplyText f e)
    by false false true q e deeper = deeper true e
    by true false true q e deeper = absurd (refused_not_good ReplyText f e)
    by false false false true e deeper = absurd (refused_not_good ReplyText f e)
    by true false false true e deeper = deeper false e
    by false false false false e deeper = deeper false e
    by true false false false e deeper = absurd (refused_not_good ReplyText f e)

text-ends : (s : List ℕ) (at : ℕ) (f : Read Stretch) → read_text s at ≡ Ok f → text_end s at ≡ f.next
unfolding read_text text_end
text-ends s at f e = text-from (suc (length s)) s at at false f e

-- the opcode and the three texts of the older forms
opcode-next : (s : List ℕ) (f : Read ℕ) → read_opcode older_opcodes s ≡ Ok f → 2 ≡ f.next
unfolding read_opcode
opcode-next s f e =
    let o = good_then (read_octets s 0 2) _ f e in
    let q = (refused_if-good (not (is_one_of older_opcodes (little o.0.value))) ReplyOpcode _ f o.2).1 in
    cc (octets-read s 0 2 o.0 o.1)

-- a field, and then what follows it
then_read : {A B C : Type 0} (t : Try (Read A)) (end : ℕ) → ((f : Read A) → t ≡ Ok f → end ≡ f.next) → (rest : Read A → Try B) (b : B) → (t >>= rest) ≡ Ok b
    → ((f : Read A) → end ≡ f.next → rest f ≡ Ok b → C) → C
then_read t end left rest b e goal = let f = good_then t rest b e in goal f.0 (left f.0 f.1) f.2

pub opening-ends : (s : List ℕ) (o : Read Opening) → read_opening s ≡ Ok o → text_end s (text_end s (text_end s 2)) ≡ o.next
unfolding read_opening
opening-ends s o e =
    then_read (read_opcode older_opcodes s) 2 (opcode-next s) _ o e (λ code c e.
    then_read (read_text s code.next) (text_end s code.next) (text-ends s code.next) _ o e (λ server a e.
    then_read (read_text s server.next) (text_end s server.next) (text-ends s server.next) _ o e (λ user u e.
    then_read (read_text s user.next) (text_end s user.next) (text-ends s user.next) _ o e (λ domain d e.
    rw (c, a, u, d) cc))))
