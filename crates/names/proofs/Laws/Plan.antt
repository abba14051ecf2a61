-- Laws of planned names: one more after others, and what is written for them.
use Rattle.std.proofs.Common.{Option, None, Some}
use mathlib.Core.Path.{◌≡◌, refl, sym, ap, ap₂, ◌∙◌}
use mathlib.Core.List.{List, [], ◌∷◌, ◌++◌, flat_map, map, map-append, append-nil, append_assoc}
use Prim.Native.Nat.{ℕ, zero, suc, ◌+◌, ◌-◌, ◌≤◌, ◌<◌}
use native.Mathlib.Omega.{arith}
use native.Mathlib.Numerals.{add-one}
use lib.ListN.{length, get_or, take, set, length-take, length-append}
use lib.Seq.{take-suc, take-suc-set, length-take-le}
use Rattle.octets.specs.Label.{labels}
use Rattle.octets.specs.Number.{big_octets, little_octets}
use Rattle.lent.specs.declared.stretch.Stretch.{Stretch}
use Rattle.lent.specs.Internal.Stretch.{octets_at, empty_stretch}
use Rattle.lent.proofs.Laws.Stretch.{text_short}
use Rattle.names.specs.declared.plan.Aim.{Aim}
use Rattle.names.specs.declared.plan.PlannedName.{PlannedName}
use Rattle.names.specs.Name.{Tail, Writing, pointer_to, write_name, write_names}
use Rattle.names.specs.Internal.Plan.{
  literal_octets,
  literal_size,
  first_aim,
  better_aim,
  AimWithin,
  blank_name,
  ending_octets,
  writings_of,
  name_octets,
  name_tails,
  names_octets,
  names_tails,
  Fit,
  AllFit,
  PlanOf,
  plan_by,
  writing_of,
}
use Rattle.names.proofs.Laws.Plan.Labels.{literal_length}
use Rattle.names.proofs.Laws.Plan.Search.{written_out, written, written_by_search, search_append}
use Rattle.names.proofs.Laws.Name.{names_more}
pub mod CommonTail
pub mod Labels
pub mod Search
pub mod Tails

flat_more : {A B : Type 0} (f : A → List B) (xs : List A) (x : A) → flat_map f (xs ++ (x ∷ [])) ≡ flat_map f xs ++ f x
unfolding flat_map
flat_more f [] x = append-nil (f x)
flat_more f (y ∷ xs) x = ap (λ r. f y ++ r) (flat_more f xs x) ∙ sym (append_assoc (f y) (flat_map f xs) (f x))

below_size : (b n : ℕ) → b ≤ n → b ≤ literal_size n
below_size b zero h = h
below_size b (suc n) h = omega arith

size-within : (n : ℕ) → literal_size n ≤ n + 1
size-within zero = omega arith
size-within (suc n) = omega arith

module _ (table request : List ℕ) where
  pub fit_at : (names : List PlannedName) (i : ℕ) (d : PlannedName) → AllFit table request names → i < length names → Fit table request (get_or names i d)
  fit_at [] i d f h = absurd (omega arith)
  fit_at (name ∷ names) zero d f h = f.0
  fit_at (name ∷ names) (suc i) d f h = fit_at names i d f.1 (omega arith)

  fit_append : (names : List PlannedName) (name : PlannedName) → AllFit table request names → Fit table request name → AllFit table request (names ++ (name ∷ []))
  fit_append [] name f g = (g, tt)
  fit_append (n ∷ names) name f g = (f.0, fit_append names name f.1 g)

  module _ (name : PlannedName) (fit : Fit table request name) where
    pub name-length : length (name_octets table request name) ≡ name.«literal» + length (ending_octets name.pointer)
    unfolding name_octets
    name-length =
        let octets : List ℕ = literal_octets (octets_at table request name.«text») in
        length-append (take name.«literal» octets) (ending_octets name.pointer)
        ∙ ap (λ (n : ℕ). n + length (ending_octets name.pointer)) (length-take-le name.«literal» octets fit.labels)

    pub literal_short : name.«literal» ≤ 256
    literal_short =
        let octets : List ℕ = octets_at table request name.«text» in
        omega (arith, fit.labels, literal_length octets, size-within (length octets), text_short table request name.«text»)

  -- the names up to one, and those with it
  module _ (names : List PlannedName) (i : ℕ) (d : PlannedName) (h : i < length names) where
    with_next : take (i + 1) names ≡ take i names ++ (get_or names i d ∷ [])
    with_next = rw add-one (take-suc names i d h)

    pub search_more : (ls : List (List ℕ)) → first_aim (names_tails table request (take (i + 1) names)) ls
        ≡ better_aim (first_aim (names_tails table request (take i names)) ls) (first_aim (name_tails table request (get_or names i d)) ls)
    search_more ls =
        ap (λ (ns : List PlannedName). first_aim (names_tails table request ns) ls) with_next
        ∙ ap (λ (ts : List Tail). first_aim ts ls) (flat_more (name_tails table request) (take i names) (get_or names i d))
        ∙ search_append (names_tails table request (take i names)) (name_tails table request (get_or names i d)) ls

    pub octets-more : names_octets table request (take i names) ++ name_octets table request (get_or names i d) ≡ names_octets table request (take (i + 1) names)
    octets-more = sym (ap (names_octets table request) with_next ∙ flat_more (name_octets table request) (take i names) (get_or names i d))

  pub octets-within : (names : List PlannedName) (i : ℕ) (d : PlannedName) → i < length names
      → length (names_octets table request (take i names)) + length (name_octets table request (get_or names i d)) ≤ length (names_octets table request names)
  unfolding flat_map
  octets-within [] i d h = absurd (omega arith)
  octets-within (name ∷ names) zero d h = simp length-append (omega arith)
  octets-within (name ∷ names) (suc i) d h = simp length-append (omega (arith, octets-within names i d (omega arith)))

  -- one name planned after others
  module _ (names : List PlannedName) (i : ℕ) (name : PlannedName) (h : i < length names) where
    abbrev planned : List PlannedName
    planned = set names i name

    now_planned : take (i + 1) planned ≡ take i names ++ (name ∷ [])
    now_planned = rw add-one (take-suc-set names i name h)

    pub fit-more : AllFit table request (take i names) → Fit table request name → AllFit table request (take (i + 1) planned)
    fit-more f g = rw now_planned (fit_append (take i names) name f g)

    pub length_more : length (names_octets table request (take (i + 1) planned)) ≡ length (names_octets table request (take i names)) + length (name_octets table request name)
    length_more =
        ap (λ (ns : List PlannedName). length (names_octets table request ns)) now_planned
        ∙ ap length (flat_more (name_octets table request) (take i names) name)
        ∙ length-append (names_octets table request (take i names)) (name_octets table request name)

    pub writes_more : (texts : List Stretch) (offset end : ℕ) (text : Stretch) → i < length texts → text ≡ get_or texts i text
        → write_names [] offset (map (octets_at table request) (take i texts)) ≡ writings_of table request (take i names)
        → end ≡ offset + length (names_octets table request (take i names))
        → PlanOf table request (take i names) text end name
        → write_names [] offset (map (octets_at table request) (take (i + 1) texts)) ≡ writings_of table request (take (i + 1) planned)
    writes_more texts offset end text k is w e p =
        let f : Stretch → List ℕ = octets_at table request in
        let ns : List PlannedName = take i names in
        let t : take (i + 1) texts ≡ take i texts ++ (text ∷ []) =
        rw add-one (take-suc texts i text k) ∙ ap (λ (s : Stretch). take i texts ++ (s ∷ [])) (sym is) in
        ap (λ (l : List Stretch). write_names [] offset (map f l)) t
        ∙ ap (write_names [] offset) (map-append f (take i texts) (text ∷ []))
        ∙ names_more (map f (take i texts)) [] offset (f text)
        ∙ ap (λ (r : Writing). let one = write_name r.tails (offset + length r.octets) (f text) in record { octets = r.octets ++ one.octets; tails = r.tails ++ one.tails }) w
        ∙ ap (λ (one : Writing). record { octets = names_octets table request ns ++ one.octets; tails = names_tails table request ns ++ one.tails })
        (ap (λ (n : ℕ). write_name (names_tails table request ns) n (f text)) (sym e) ∙ p.writes)
        ∙ ap₂ (λ (x : List ℕ) (y : List Tail). record { octets = x; tails = y })
        (sym (flat_more (name_octets table request) ns name)) (sym (flat_more (name_tails table request) ns name))
        ∙ ap (writings_of table request) (sym now_planned)

  -- the plan that the search over all names before gives
  module _ (names : List PlannedName) (text : Stretch) (offset : ℕ) (low : offset ≤ 8192) where
    abbrev octets : List ℕ
    octets = octets_at table request text

    abbrev plan : Option Aim → PlannedName
    plan aim = plan_by text (length octets) offset aim

    plan_fits : (aim : Option Aim) → AimWithin (length octets) aim → Fit table request (plan aim)
    plan_fits (Some a) h = record { labels = omega (arith, literal_length octets, below_size a.before (length octets) h.0); low = low; aims = h.1 }
    plan_fits None h = record { labels = omega (arith, literal_length octets); low = low; aims = tt }

    plan_small : (aim : Option Aim) → AimWithin (length octets) aim → (plan aim).«literal» + length (ending_octets (plan aim).pointer) ≤ 257
    unfolding pointer_to big_octets little_octets
    plan_small (Some a) h = omega (arith, text_short table request text)
    plan_small None h = omega (arith, size-within (length octets), text_short table request text)

    plan_writes : (aim : Option Aim) → written offset aim (labels octets) ≡ writing_of table request (plan aim)
    unfolding name_octets name_tails literal_octets
    plan_writes (Some a) = refl
    plan_writes None = ap (λ (n : ℕ). written_out offset n None (labels octets)) (literal_length octets)

    pub plan_of : (aim : Option Aim) → aim ≡ first_aim (names_tails table request names) (labels octets) → AimWithin (length octets) aim → PlanOf table request names text offset (plan aim)
    unfolding write_name
    plan_of aim e w =
        record {
          same_text_lem = same_text aim;
          same_offset = same-offset aim;
          fit = plan_fits aim w;
          small = omega (arith, name-length (plan aim) (plan_fits aim w), plan_small aim w);
          writes = written_by_search (names_tails table request names) offset (labels octets)
              ∙ ap (λ (a : Option Aim). written offset a (labels octets)) (sym e)
              ∙ plan_writes aim;
        }
      where
        same_text : (aim : Option Aim) → (plan aim).«text» ≡ text
        same_text (Some a) = refl
        same_text None = refl

        same-offset : (aim : Option Aim) → (plan aim).«offset» ≡ offset
        same-offset (Some a) = refl
        same-offset None = refl
