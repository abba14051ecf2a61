-- Laws of a raw reply's slots: the first ones are a form's names, in order.
use mathlib.Core.Path.{◌≡◌, refl, sym, ap, subst, ◌∙◌}
use mathlib.Core.List.{List, [], ◌∷◌, map}
use Prim.Native.Nat.{ℕ, zero, suc, ◌+◌, ◌*◌, ◌≤◌, min}
use native.Mathlib.Omega.{arith}
use lib.ListN.{length, get_or, take, drop, length-take}
use lib.Seq.{drop-cons}
use Rattle.lent.specs.declared.stretch.Stretch.{Stretch}
use Rattle.lent.specs.Internal.Stretch.{octets_at, empty_stretch}
use Rattle.names.specs.declared.plan.NamesPlan.{NamesPlan}
use Rattle.names.specs.Name.{write_names}
use Rattle.names.specs.Internal.Plan.{names_octets, writings_of, AllFit, PlansOf}

-- an array of stretches, of which the first n are planned as names
module _ (table request : List ℕ) (slots : List Stretch) where
  -- the texts of n slots from k on
  abbrev pub texts_from : ℕ → ℕ → List (List ℕ)
  texts_from k zero = []
  texts_from k (suc n) = octets_at table request (get_or slots k empty_stretch) ∷ texts_from (suc k) n

  pub slot_texts : (k n : ℕ) → k + n ≤ length slots → map (octets_at table request) (take n (drop k slots)) ≡ texts_from k n
  slot_texts k zero h = refl
  slot_texts k (suc n) h =
      let c : drop k slots ≡ get_or slots k empty_stretch ∷ drop (suc k) slots = drop-cons slots k empty_stretch (omega arith) in
      ap (λ (l : List Stretch). map (octets_at table request) (take (suc n) l)) c
      ∙ ap (λ (l : List (List ℕ)). octets_at table request (get_or slots k empty_stretch) ∷ l) (slot_texts (suc k) n (omega arith))

  -- the plan of the first n
  pub record FirstPlanned (n at : ℕ) (planned : NamesPlan) : Type 0 where
    pub fit : AllFit table request (take n planned.«names»)
    pub writes : write_names [] at (texts_from 0 n) ≡ writings_of table request (take n planned.«names»)
    pub ends : planned.«end» ≡ at + length (names_octets table request (take n planned.«names»))
    pub small : planned.«end» ≤ at + 257 * n

  pub first_planned : (n at : ℕ) (planned : NamesPlan) (texts : List Stretch) → (texts ≡ take n slots) × (length texts ≡ n) → PlansOf table request texts at planned → FirstPlanned n at planned
  first_planned n at planned texts e p =
      let l : length texts ≡ min n (length slots) = ap length e.0 ∙ length-take n slots in
      let k : length texts ≡ n = e.1 in
      record {
        fit = subst (λ (m : ℕ). AllFit table request (take m planned.«names»)) k p.fit;
        writes = ap (write_names [] at) (sym (slot_texts 0 n (omega arith)) ∙ ap (map (octets_at table request)) (sym e.0)) ∙ p.writes ∙ ap (λ (m : ℕ). writings_of table request (take m planned.«names»)) k;
        ends = subst (λ (m : ℕ). planned.«end» ≡ at + length (names_octets table request (take m planned.«names»))) k p.ends;
        small = subst (λ (m : ℕ). planned.«end» ≤ at + 257 * m) k p.small;
      }
