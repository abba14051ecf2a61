-- Document 01, "The filter": an AND (A0h) of one or more filters, to depth 4, or an equality (A3h) of two octet strings (04h).
-- A filter is read by offsets: from `at`, within the end of the element around it.
use Rattle.std.specs.Prelude.{true, false, cond, ◌&&◌, List, [], ◌∷◌, ◌++◌, ℕ, zero, suc, ◌+◌, ◌-◌, eqb, leb, ltb, length, get_or, Option, None, Some, option_map, option_and_then}
use Rattle.octets.specs.{Lists.cut, Number.big}
use Rattle.filter_position.specs.{declared.position.Element.Element, declared.position.RawClause.RawClause}

infixl 1 ◌>>=◌
-- what follows, where there is something; a `do` block is made of it
abbrev pub ◌>>=◌ : {A B : Type 0} → Option A → (A → Option B) → Option B
o >>= f = option_and_then f o

-- 5: a filter over this many octets
abbrev pub filter_limit : ℕ
filter_limit = 2048

-- the tags
abbrev pub and_tag : ℕ
and_tag = 0xA0

abbrev pub equality_tag : ℕ
equality_tag = 0xA3

abbrev pub string_tag : ℕ
string_tag = 0x04

-- a length below this is its own octet; else one octet or two come after this one
abbrev pub short_limit : ℕ
short_limit = 0x80

abbrev pub one_after : ℕ
one_after = 0x81

abbrev pub two_after : ℕ
two_after = 0x82

-- how many octets a length takes by its first one, past that one; another first octet makes no length
abbrev pub length_width : ℕ → Option ℕ
length_width x = cond (ltb x short_limit) (Some 0) (cond (eqb x one_after) (Some 1) (cond (eqb x two_after) (Some 2) None))

abbrev pub length_value : List ℕ → ℕ → ℕ → ℕ
length_value s at zero = get_or s at 0
length_value s at (suc w) = big (cut s (at + 1) (suc w))

-- the element whose contents are n octets from `start`, if they end within `end`
abbrev pub element_of : ℕ → ℕ → ℕ → ℕ → Option Element
element_of tag start n end = cond (leb (start + n) end) (Some (record { tag = tag; start = start; next = start + n })) None

-- the element at `at`: a tag, a length, and the contents, all within `end`
unfoldable pub element_at : List ℕ → ℕ → ℕ → Option Element
element_at s at end =
    cond (ltb end (at + 2))
    None
    (do
      w ← length_width (get_or s (at + 1) 0)
      cond (ltb end (at + 2 + w)) None (element_of (get_or s at 0) (at + 2 + w) (length_value s (at + 1) w) end))

-- the clause that a name and a value make
abbrev pub clause_of : Element → Element → RawClause
clause_of n v = record { name = record { start = n.start; len = n.next - n.start }; value = record { start = v.start; len = v.next - v.start } }

-- a name and a value that fill the equality from `at` to `end`: the clause that they are
unfoldable pub equality : List ℕ → ℕ → ℕ → Option RawClause
equality s at end = do
  n ← element_at s at end
  cond
      (eqb n.tag string_tag)
      (do
        v ← element_at s n.next end
        cond (eqb v.tag string_tag && eqb v.next end) (Some (clause_of n v)) None)
      None

module _ (and : List ℕ → ℕ → ℕ → Option (List RawClause)) where
  -- the filter that an element is, where `and` reads the contents of an AND
  unfoldable pub one : List ℕ → Element → Option (List RawClause)
  one s e = elim (eqb e.tag equality_tag) [ true ↦ option_map (λ f. f ∷ []) (equality s e.start e.next) | false ↦ cond (eqb e.tag and_tag) (and s e.start e.next) None ]

  -- filters that fill the stretch from `at` to `end`, one at least; k bounds how many there are
  unfoldable pub siblings : ℕ → List ℕ → ℕ → ℕ → Option (List RawClause)
  siblings zero s at end = None
  siblings (suc k) s at end = do
    e ← element_at s at end
    xs ← one s e
    elim (eqb e.next end) [ true ↦ Some xs | false ↦ option_map (λ ys. xs ++ ys) (siblings k s e.next end) ]

-- the contents of an AND, where it and d - 1 more may stand one inside the other
unfoldable pub and_of : ℕ → List ℕ → ℕ → ℕ → Option (List RawClause)
and_of zero s at end = None
and_of (suc d) s at end = siblings (and_of d) (end - at) s at end

-- a whole filter's clauses in order, or none where it is not of the shape: one element that fills the octets
unfoldable pub clauses_of : List ℕ → Option (List RawClause)
clauses_of s = do
  e ← element_at s 0 (length s)
  cond (eqb e.next (length s)) (one (and_of 4) s e) None
