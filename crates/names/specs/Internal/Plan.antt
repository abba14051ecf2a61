-- A name as it is planned: what it writes, what later names may point to, and the search for a tail.
use Rattle.std.specs.Prelude.{◌≡◌, Bool, cond, ◌&&◌, ℕ, zero, suc, ◌+◌, ◌-◌, ◌*◌, ◌≤◌, ◌<◌, eqb, leb, ltb, length, get_or, take, drop, Option, None, Some}
use mathlib.Core.List.{List, [], ◌∷◌, ◌++◌, flat_map, map}
use Rattle.octets.specs.Label.{labels, joined}
use Rattle.octets.specs.Lists.{first}
use Rattle.octets.specs.Text.{same}
use Rattle.lent.specs.declared.stretch.Stretch.{Stretch}
use Rattle.lent.specs.Internal.Stretch.{octets_at, empty_stretch}
use Rattle.names.specs.declared.plan.Aim.{Aim}
use Rattle.names.specs.declared.plan.PlannedName.{PlannedName}
use Rattle.names.specs.declared.plan.NamesPlan.{NamesPlan}
use Rattle.names.specs.Name.{Tail, Writing, pointer_limit, pointer_to, literal_label, write_name, write_names}

-- ---- a text's labels, by offsets in the text

-- the octets before the first dot
unfoldable pub to_dot : List ℕ → ℕ
to_dot [] = 0
to_dot (x ∷ xs) = cond (eqb x 46) 0 (suc (to_dot xs))

-- a label starts at the front and after each dot
abbrev pub starts_label : List ℕ → ℕ → Bool
starts_label text at = eqb (get_or (46 ∷ text) at 0) 46

-- a text's labels written out, each after its length
unfoldable pub literal_octets : List ℕ → List ℕ
literal_octets text = flat_map literal_label (labels text)

-- how many octets they take, by the text's length
abbrev pub literal_size : ℕ → ℕ
literal_size zero = 0
literal_size (suc n) = suc n + 1

-- ---- tails

-- the tails of labels at an offset, of which so many octets are written out
unfoldable pub tails_from : ℕ → ℕ → List (List ℕ) → List Tail
tails_from at literal [] = []
tails_from at zero (l ∷ ls) = []
tails_from at (suc literal) (l ∷ ls) = record { offset = at; text = joined (l ∷ ls) } ∷ tails_from (at + (1 + length l)) (literal - length l) ls

-- whether one name's text ends with a tail from a label that is written out
unfoldable pub offers_tail : List ℕ → ℕ → List ℕ → Bool
offers_tail earlier literal tail =
    let start = length earlier - length tail in
    leb (length tail) (length earlier) && ltb start literal && starts_label earlier start && same (drop start earlier) tail

-- how many octets two texts have in common at their ends
pub record CommonTail (a b : List ℕ) (n : ℕ) : Type 0 where
  pub first : n ≤ length a
  pub second : n ≤ length b
  pub common : drop (length a - n) a ≡ drop (length b - n) b
  pub most : n < length a → n < length b → get_or a (length a - 1 - n) 0 ≡ get_or b (length b - 1 - n) 0 → ⊥

-- whether it offers a tail of some size, where so many octets are common
abbrev pub offers_size : List ℕ → ℕ → ℕ → ℕ → Bool
offers_size earlier literal size common = leb size common && ltb (length earlier - size) literal && starts_label earlier (length earlier - size)

-- ---- the search

abbrev pub aimed : ℕ → ℕ → Option Aim
aimed before offset = Some (record { before = before; offset = offset })

-- with n octets more before it
abbrev pub shift : ℕ → Option Aim → Option Aim
shift n (Some a) = aimed (n + a.before) a.offset
shift n None = None

-- a tail to point to at once, or the aim further on
abbrev pub aim_or : Option Tail → Option Aim → Option Aim
aim_or (Some t) rest = aimed 0 t.offset
aim_or None rest = rest

-- where a pointer to an earlier tail may end a name first
unfoldable pub first_aim : List Tail → List (List ℕ) → Option Aim
first_aim earlier [] = None
first_aim earlier (l ∷ ls) = aim_or (first (λ t. same t.text (joined (l ∷ ls))) earlier) (shift (1 + length l) (first_aim earlier ls))

-- of two aims the one with fewer octets before it, the first where they agree
abbrev pub better_aim : Option Aim → Option Aim → Option Aim
better_aim None b = b
better_aim (Some a) None = Some a
better_aim (Some a) (Some b) = cond (ltb b.before a.before) (Some b) (Some a)

-- an aim in a text of n octets, at an offset that a pointer can hold
abbrev pub AimWithin : ℕ → Option Aim → Type 0
AimWithin n (Some a) = (a.before ≤ n) × (a.offset < pointer_limit)
AimWithin n None = Unit {0}

-- ---- planned names

-- a pointer, or a zero octet where there is none
abbrev pub ending_octets : Option ℕ → List ℕ
ending_octets None = 0 ∷ []
ending_octets (Some offset) = pointer_to offset

abbrev pub PointsLow : Option ℕ → Type 0
PointsLow None = Unit {0}
PointsLow (Some offset) = offset < pointer_limit

-- a name of n octets, by its aim
abbrev pub plan_by : Stretch → ℕ → ℕ → Option Aim → PlannedName
plan_by text n offset (Some a) = record { text = text; offset = offset; literal = a.before; pointer = Some a.offset }
plan_by text n offset None = record { text = text; offset = offset; literal = literal_size n; pointer = None }

module _ (table request : List ℕ) where
  abbrev pub text_of : PlannedName → List ℕ
  text_of name = octets_at table request name.«text»

  -- what a planned name writes, and the tails that later names may point to
  unfoldable pub name_octets : PlannedName → List ℕ
  name_octets name = take name.«literal» (literal_octets (text_of name)) ++ ending_octets name.pointer

  unfoldable pub name_tails : PlannedName → List Tail
  name_tails name = tails_from name.«offset» name.«literal» (labels (text_of name))

  abbrev pub names_octets : List PlannedName → List ℕ
  names_octets names = flat_map name_octets names

  abbrev pub names_tails : List PlannedName → List Tail
  names_tails names = flat_map name_tails names

  abbrev pub writing_of : PlannedName → Writing
  writing_of name = record { octets = name_octets name; tails = name_tails name }

  abbrev pub writings_of : List PlannedName → Writing
  writings_of names = record { octets = names_octets names; tails = names_tails names }

  -- no more octets of the labels than there are, and offsets that a pointer can hold
  pub record Fit (name : PlannedName) : Type 0 where
    pub labels : name.«literal» ≤ length (literal_octets (text_of name))
    pub low : name.«offset» ≤ 8192
    pub aims : PointsLow name.pointer

  abbrev pub AllFit : List PlannedName → Type 0
  AllFit [] = Unit {0}
  AllFit (name ∷ names) = Fit name × AllFit names

  -- a name's plan after the names planned before it
  pub record PlanOf (names : List PlannedName) (text : Stretch) (offset : ℕ) (r : PlannedName) : Type 0 where
    pub same_text_lem : r.«text» ≡ text
    pub same_offset : r.«offset» ≡ offset
    pub fit : Fit r
    pub small : length (name_octets r) ≤ 257
    pub writes : write_name (names_tails names) offset (octets_at table request text) ≡ writing_of r

  -- the plan of names one after the other
  pub record PlansOf (texts : List Stretch) (offset : ℕ) (r : NamesPlan) : Type 0 where
    pub fit : AllFit (take (length texts) r.«names»)
    pub writes : write_names [] offset (map (octets_at table request) texts) ≡ writings_of (take (length texts) r.«names»)
    pub ends : r.«end» ≡ offset + length (names_octets (take (length texts) r.«names»))
    pub small : r.«end» ≤ offset + 257 * length texts

-- what stands past the end of an array of names
abbrev pub blank_name : PlannedName
blank_name = record { text = empty_stretch; offset = 0; literal = 0; pointer = None }
