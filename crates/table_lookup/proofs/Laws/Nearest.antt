-- One pass over the records finds the nearest subnet of the table.
use Rattle.std.proofs.Common.{Option, None, Some}
use mathlib.Core.Path.{◌≡◌, refl, ◌∙◌}
use mathlib.Core.Bool.{Bool, true, false, cond, ◌&&◌}
use mathlib.Core.List.{List, [], ◌∷◌, map, flat_map}
use Prim.Native.Nat.{ℕ}
use native.Mathlib.Omega.{arith}
use lib.Dec.{ltb}
use borrow.Author.Tests.{ltb-true, ltb-false}
use Rattle.octets.specs.Lists.{keep, keep_if}
use Rattle.table.specs.declared.Caller.{Caller}
use Rattle.table.specs.Address.{address_number}
use Rattle.table.specs.Format.{records_in}
use Rattle.table.specs.Subnet.{Subnet, subnet_format, subnet_of}
use Rattle.table.specs.Table.{is_used, bodies, records_of, table_of}
use Rattle.table_find.specs.Find.{in_subnet}
use Rattle.table_lookup.specs.Lookup.{nearer, nearest, subnet_for}
use Rattle.table_find.specs.Internal.Nearest.{longer, nearer_held, nearest_over, nearest_in}

-- the nearer of two, where there are two; the first of equal ones
abbrev nearer_of : Option Subnet → Option Subnet → Option Subnet
nearer_of None m = m
nearer_of (Some n) m = nearer n m

alone : (o : Option Subnet) → o ≡ nearer_of o None
alone None = refl
alone (Some n) = refl

-- it does not matter which two are compared first
in_turn : (o : Option Subnet) (n : Subnet) (x : Option Subnet) → nearer_of (longer o n) x ≡ nearer_of o (nearer n x)
in_turn None n x = refl
in_turn (Some m) n None = go (ltb m.prefix n.prefix) refl
  where
    go : (b : Bool) → ltb m.prefix n.prefix ≡ b → nearer_of (cond b (Some n) (Some m)) None ≡ cond b (Some n) (Some m)
    go true e = refl
    go false e = refl
in_turn (Some m) n (Some k) = go (ltb m.prefix n.prefix) refl (ltb n.prefix k.prefix) refl (ltb m.prefix k.prefix) refl
  where
    go : (x : Bool) → ltb m.prefix n.prefix ≡ x → (y : Bool) → ltb n.prefix k.prefix ≡ y → (z : Bool) → ltb m.prefix k.prefix ≡ z
        → nearer_of (cond x (Some n) (Some m)) (Some k) ≡ nearer m (cond y (Some k) (Some n))
    go true p true q true r = rw (q, r)
    go true p true q false r = absurd (omega (arith, ltb-true m.prefix n.prefix p, ltb-true n.prefix k.prefix q, ltb-false m.prefix k.prefix r))
    go true p false q z r = rw (q, p)
    go false p true q z r = refl
    go false p false q true r = absurd (omega (arith, ltb-false m.prefix n.prefix p, ltb-false n.prefix k.prefix q, ltb-true m.prefix k.prefix r))
    go false p false q false r = rw (r, p)

module _ (address : ℕ) where
  -- the subnets of records in use that hold the address
  abbrev held : List (List ℕ) → List Subnet
  held rs = keep (in_subnet address) (map subnet_of (keep is_used rs))

  over_held : (best : Option Subnet) (rs : List (List ℕ)) → nearest_over address best rs ≡ nearer_of best (nearest (held rs))
  unfolding nearest_over nearest keep
  over_held best [] = alone best
  over_held best (r ∷ rs) = over_held (nearer_held address best r) rs ∙ go (is_used r) (in_subnet address (subnet_of r)) refl
    where
      go : (u h : Bool) → in_subnet address (subnet_of r) ≡ h
          → nearer_of (cond (u && h) (longer best (subnet_of r)) best) (nearest (held rs))
          ≡ nearer_of best (nearest (keep (in_subnet address) (map subnet_of (keep_if u r (keep is_used rs)))))
      go false h e = refl
      go true true e = rw e (in_turn best (subnet_of r) (nearest (held rs)))
      go true false e = rw e

pub subnet_found : (caller : Caller) (blocks : List (List ℕ)) → nearest_in (address_number caller.address) None blocks ≡ subnet_for (table_of blocks) caller
unfolding nearest_in subnet_for table_of records_of
subnet_found caller blocks = over_held (address_number caller.address) None (flat_map (records_in subnet_format) (bodies subnet_format.kind blocks))
