-- The nearest subnet, found in one pass: record by record, block by block.
use Rattle.std.specs.Prelude.{cond, ◌&&◌, ℕ, ltb, Option, None, Some}
use mathlib.Core.List.{List, [], ◌∷◌, flat_map}
use Rattle.table.specs.Format.{records_in}
use Rattle.table.specs.Subnet.{Subnet, subnet_format, subnet_of}
use Rattle.table.specs.Table.{is_used, bodies}
use Rattle.table_find.specs.Find.{in_subnet}

-- a later subnet takes the place of one with a shorter prefix
abbrev pub longer : Option Subnet → Subnet → Option Subnet
longer None n = Some n
longer (Some m) n = cond (ltb m.prefix n.prefix) (Some n) (Some m)

-- a record in use that holds the address comes in
abbrev pub nearer_held : ℕ → Option Subnet → List ℕ → Option Subnet
nearer_held address best r = cond (is_used r && in_subnet address (subnet_of r)) (longer best (subnet_of r)) best

unfoldable pub nearest_over : ℕ → Option Subnet → List (List ℕ) → Option Subnet
nearest_over address best [] = best
nearest_over address best (r ∷ rs) = nearest_over address (nearer_held address best r) rs

unfoldable pub nearest_in_body : ℕ → Option Subnet → List ℕ → Option Subnet
nearest_in_body address best b = nearest_over address best (records_in subnet_format b)

unfoldable pub nearest_in : ℕ → Option Subnet → List (List ℕ) → Option Subnet
nearest_in address best blocks = nearest_over address best (flat_map (records_in subnet_format) (bodies subnet_format.kind blocks))
