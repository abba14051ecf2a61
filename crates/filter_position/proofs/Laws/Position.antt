-- Laws of what lies at a position: lengths, elements, and the filters of an AND.
use Rattle.std.proofs.Common.{Option, None, Some, option_map}
use mathlib.Core.Path.{◌≡◌, refl, ap, ◌∙◌}
use mathlib.Core.Bool.{Bool, true, false, cond}
use mathlib.Core.List.{List, [], ◌∷◌, ◌++◌}
use Prim.Native.Nat.{ℕ, zero, suc, ◌+◌, ◌-◌, ◌≤◌, ◌<◌}
use native.Mathlib.Omega.{arith}
use borrow.Author.Tests.{lt-ltb, le-ltb, le-leb, lt-leb, eq-eqb, ne_eqb}
use lib.Dec.{eqb, ltb}
use lib.ListN.{length, get_or}
use Rattle.octets.specs.Lists.{cut}
use Rattle.octets.specs.Number.{big}
use Rattle.octets.specs.declared.part.Stretch.{Stretch}
use Rattle.filter_position.specs.declared.position.Element.{Element}
use Rattle.filter_position.specs.declared.position.Filter.{Filter}
use Rattle.filter_position.specs.declared.position.Filter.TheVariants as filter
use Rattle.filter_position.specs.declared.position.FilterRead.{FilterRead}
use Rattle.filter_position.specs.declared.position.RawClause.{RawClause}
use Rattle.filter_position.specs.Filter.{◌>>=◌, element_at, element_of, equality, length_width, length_value, and_tag, equality_tag, one, siblings, and_of, clauses_of}
use Rattle.filter_position.specs.Internal.Position.{contents_at, filter_in, read_to, filter_at, clauses_in, FilterInside}

-- how many octets follow a length's first one
pub width_one : {x : ℕ} → x ≡ 0x81 → length_width x ≡ Some 1
width_one e = ap length_width e

pub width_two : {x : ℕ} → x ≡ 0x82 → length_width x ≡ Some 2
width_two e = ap length_width e

pub width_none : {x : ℕ} → 0x80 ≤ x → (x ≡ 0x81 → ⊥) → (x ≡ 0x82 → ⊥) → length_width x ≡ None
width_none {x} h a b = rw (le-ltb x 0x80 h, ne_eqb x 0x81 a, ne_eqb x 0x82 b)

-- an element ends within what it stands in
pub ends-past : (tag start n end : ℕ) → end < start + n → element_of tag start n end ≡ None
ends-past tag start n end h = rw (lt-leb (start + n) end h)

pub ends-within : (tag start n end : ℕ) → start + n ≤ end → element_of tag start n end ≡ Some (record { tag = tag; start = start; next = start + n })
ends-within tag start n end h = rw (le-leb (start + n) end h)

module _ (s : List ℕ) (at end : ℕ) where
  -- contents by the first octet of the length: how many more it takes, where the contents start, and how many there are
  pub contents_are : (w start len : ℕ) → length_width (get_or s (at + 1) 0) ≡ Some w → at + 2 + w ≡ start → length_value s (at + 1) w ≡ len → start ≤ end → contents_at s at end ≡ Some (record { start = start; len = len })
  unfolding contents_at
  contents_are w start len e q v h = rw (contents_at, e, q, v, le-ltb end start h)

  pub contents_cut : (w : ℕ) → length_width (get_or s (at + 1) 0) ≡ Some w → end < at + 2 + w → contents_at s at end ≡ None
  unfolding contents_at
  contents_cut w e h = rw (contents_at, e, lt-ltb end (at + 2 + w) h)

  pub contents_none : length_width (get_or s (at + 1) 0) ≡ None → contents_at s at end ≡ None
  unfolding contents_at
  contents_none e = rw (contents_at, e)

  -- the octets of a longer length stand past its first one
  pub value-at : (w : ℕ) → length_value s (at + 1) (suc w) ≡ big (cut s (at + 2) (suc w))
  value-at w =
      let q : at + 1 + 1 ≡ at + 2 = omega arith in
      ap (λ (k : ℕ). big (cut s k (suc w))) q

  -- no element without two octets; else the element with these contents
  pub element-short : end < at + 2 → element_at s at end ≡ None
  unfolding element_at
  element-short h = rw (element_at, lt-ltb end (at + 2) h)

  pub element_by : at + 2 ≤ end → element_at s at end ≡ (contents_at s at end >>= λ p. element_of (get_or s at 0) p.start p.len end)
  unfolding element_at contents_at
  element_by h = rw (element_at, le-ltb end (at + 2) h) (by (length_width (get_or s (at + 1) 0)))
    where
      of : Stretch → Option Element
      of p = element_of (get_or s at 0) p.start p.len end

      contents : ℕ → Stretch
      contents w = record { start = at + 2 + w; len = length_value s (at + 1) w }

      within : (w : ℕ) (t : Bool) → cond t None (of (contents w)) ≡ (cond t None (Some (contents w)) >>= of)
      within w true = refl
      within w false = refl

      by : (o : Option ℕ) → (o >>= λ w. cond (ltb end (at + 2 + w)) None (of (contents w))) ≡ ((o >>= λ w. cond (ltb end (at + 2 + w)) None (Some (contents w))) >>= of)
      by None = refl
      by (Some w) = within w (ltb end (at + 2 + w))

  pub element_known : (start len : ℕ) → at + 2 ≤ end → contents_at s at end ≡ Some (record { start = start; len = len }) → element_at s at end ≡ element_of (get_or s at 0) start len end
  element_known start len h e = element_by h ∙ ap (λ (o : Option Stretch). o >>= λ p. element_of (get_or s at 0) p.start p.len end) e

  pub element_unknown : at + 2 ≤ end → contents_at s at end ≡ None → element_at s at end ≡ None
  element_unknown h e = element_by h ∙ ap (λ (o : Option Stretch). o >>= λ p. element_of (get_or s at 0) p.start p.len end) e

-- an element read by the definition of a filter is the filter that is found there
one-filter : (d : ℕ) (s : List ℕ) (e : Element) → one (and_of d) s e ≡ (filter_in s e >>= clauses_in d s)
unfolding one filter_in
one-filter d s e = by_tag (eqb e.tag equality_tag) (eqb e.tag and_tag) (equality s e.start e.next)
  where
    by_tag : (a b : Bool) (o : Option RawClause)
        → (elim a as (λ x. Option (List RawClause)) [ true ↦ option_map (λ f. f ∷ []) o | false ↦ cond b (and_of d s e.start e.next) None ])
        ≡ ((elim a as (λ x. Option Filter) [ true ↦ option_map filter.Clause o | false ↦ cond b (Some (filter.And (record { at = e.start; end = e.next }))) None ]) >>= clauses_in d s)
    by_tag true b None = refl
    by_tag true b (Some f) = refl
    by_tag false true o = refl
    by_tag false false o = refl

module _ (d : ℕ) (s : List ℕ) (end : ℕ) where
  -- what follows from a filter that was read
  abbrev pub then : ℕ → FilterRead → Option (List RawClause)
  then k r = clauses_in d s r.filter >>= λ xs. elim (eqb r.rest.at end) [ true ↦ Some xs | false ↦ option_map (λ ys. xs ++ ys) (siblings (and_of d) k s r.rest.at end) ]

  pub siblings-read : (k at : ℕ) → siblings (and_of d) (suc k) s at end ≡ (filter_at s at end >>= then k)
  unfolding siblings filter_at
  siblings-read k at = by_element (element_at s at end)
    where
      by_filter : (e : Element) (q : Option Filter)
          → ((q >>= clauses_in d s) >>= λ xs. elim (eqb e.next end) [ true ↦ Some xs | false ↦ option_map (λ ys. xs ++ ys) (siblings (and_of d) k s e.next end) ])
          ≡ (option_map (read_to (record { at = e.next; end = end })) q >>= then k)
      by_filter e None = refl
      by_filter e (Some f) = refl

      by_element : (o : Option Element)
          → (o >>= λ e. one (and_of d) s e >>= λ xs. elim (eqb e.next end) [ true ↦ Some xs | false ↦ option_map (λ ys. xs ++ ys) (siblings (and_of d) k s e.next end) ])
          ≡ ((o >>= λ e. option_map (read_to (record { at = e.next; end = end })) (filter_in s e)) >>= then k)
      by_element None = refl
      by_element (Some e) = rw (one-filter d s e) (by_filter e (filter_in s e))

-- the contents of an AND, with its own depth taken off
pub and_deeper : (d : ℕ) (s : List ℕ) (at end : ℕ) → (d ≡ 0 → ⊥) → siblings (and_of (d - 1)) (end - at) s at end ≡ and_of d s at end
unfolding and_of
and_deeper zero s at end h = absurd (h refl)
and_deeper (suc d) s at end h =
    let e : suc d - 1 ≡ d = omega arith in
    ap (λ (k : ℕ). siblings (and_of k) (end - at) s at end) e

-- what lies within a stretch lies within the octets around it
pub filter-within : (n end : ℕ) (f : Filter) → end ≤ n → FilterInside end f → FilterInside n f
filter-within n end (filter.Clause f) h w = (w.0, omega arith, omega arith)
filter-within n end (filter.And p) h w = (w.0, omega arith)

module _ (s : List ℕ) where
  -- the clauses of a whole filter that was read
  abbrev filled : FilterRead → Option (List RawClause)
  filled r = cond (eqb r.rest.at (length s)) (clauses_in 4 s r.filter) None

  -- a whole filter by its one element
  whole-read : clauses_of s ≡ (filter_at s 0 (length s) >>= filled)
  unfolding clauses_of filter_at
  whole-read = by_element (element_at s 0 (length s))
    where
      by_filter : (e : Element) (q : Option Filter)
          → cond (eqb e.next (length s)) (q >>= clauses_in 4 s) None
          ≡ (option_map (read_to (record { at = e.next; end = length s })) q >>= filled)
      by_filter e None = nothing_left (eqb e.next (length s))
        where
          nothing_left : (b : Bool) → cond {A = Option (List RawClause)} b None None ≡ None
          nothing_left true = refl
          nothing_left false = refl
      by_filter e (Some f) = refl

      by_element : (o : Option Element)
          → (o >>= λ e. cond (eqb e.next (length s)) (one (and_of 4) s e) None)
          ≡ ((o >>= λ e. option_map (read_to (record { at = e.next; end = length s })) (filter_in s e)) >>= filled)
      by_element None = refl
      by_element (Some e) = rw (one-filter 4 s e) (by_filter e (filter_in s e))

  pub whole_wrong : filter_at s 0 (length s) ≡ None → clauses_of s ≡ None
  whole_wrong e = whole-read ∙ ap (λ (x : Option FilterRead). x >>= filled) e

  module _ (r : FilterRead) (e : filter_at s 0 (length s) ≡ Some r) where
    by_end : clauses_of s ≡ filled r
    by_end = whole-read ∙ ap (λ (x : Option FilterRead). x >>= filled) e

    pub whole-short : (r.rest.at ≡ length s → ⊥) → clauses_of s ≡ None
    whole-short h = by_end ∙ ap (λ (b : Bool). cond b (clauses_in 4 s r.filter) None) (ne_eqb r.rest.at (length s) h)

    pub whole-filled : r.rest.at ≡ length s → clauses_of s ≡ clauses_in 4 s r.filter
    whole-filled h = by_end ∙ ap (λ (b : Bool). cond b (clauses_in 4 s r.filter) None) (eq-eqb r.rest.at (length s) h)
