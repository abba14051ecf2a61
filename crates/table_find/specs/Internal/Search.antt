-- The first record in use that passes a test: in a body, in a block, in all blocks.
use Rattle.std.specs.Prelude.{◌≡◌, Bool, ◌&&◌, cond, ℕ, eqb, Option, None}
use Rattle.std.specs.Fn.{Shared, FnReturnsAt}
use mathlib.Core.List.{List, flat_map}
use denote.Ref.{Bor}
use Rattle.octets.specs.Lists.{first}
use Rattle.table.specs.declared.record.RecordKind.{RecordKind}
use Rattle.table.specs.Block.{kind_in, body}
use Rattle.table.specs.Format.{format_of, records_in}
use Rattle.table.specs.Table.{is_used, bodies}

-- f answers of each record's octets what the test says of them
abbrev pub TestsAs : {F : Type 0} → Shared F (Bor (List ℕ) × Unit {0}) Bool → F → (List ℕ → Bool) → Type 0
TestsAs g f test = (r : List ℕ) (b : Bool) → FnReturnsAt g f r b → b ≡ test r

-- an unused record is never the one sought
abbrev pub passes : (List ℕ → Bool) → List ℕ → Bool
passes test r = is_used r && test r

unfoldable pub first_in_body : RecordKind → (List ℕ → Bool) → List ℕ → Option (List ℕ)
first_in_body k test b = first (passes test) (records_in (format_of k) b)

-- a block of another kind has none
unfoldable pub first_in_block : RecordKind → (List ℕ → Bool) → List ℕ → Option (List ℕ)
first_in_block k test block = cond (eqb (kind_in block) (format_of k).kind) (first_in_body k test (body block)) None

unfoldable pub first_in : RecordKind → (List ℕ → Bool) → List (List ℕ) → Option (List ℕ)
first_in k test blocks = first (passes test) (flat_map (records_in (format_of k)) (bodies (format_of k).kind blocks))
