-- Document 01, "The table image": the block check.
use Rattle.std.specs.Prelude.{◌≡◌, Bool, ◌&&◌, List, [], ◌∷◌, ℕ, ◌+◌, ◌%◌, eqb, take}
use Rattle.octets.specs.Number.{u16_at}
use Rattle.table.specs.Block.{check_offset}
use Rattle.table_check.specs.declared.check.Check.{Check}

-- a grows by an octet, then b by a, both modulo 65,536
abbrev pub grow : Check → ℕ → Check
grow c x = record { a = (c.a + x) % 65536; b = (c.b + (c.a + x) % 65536) % 65536 }

unfoldable pub grown : Check → List ℕ → Check
grown c [] = c
grown c (x ∷ xs) = grown (grow c x) xs

-- the check of octets: a starts at 1, b at 0
unfoldable pub check_of_lem : List ℕ → Check
check_of_lem octets = grown (record { a = 1; b = 0 }) octets

-- the check stored in a block, a then b, is that of the octets before it
unfoldable pub good_check : List ℕ → Bool
good_check block =
    let c = check_of_lem (take check_offset block) in
    eqb (u16_at block check_offset) c.a && eqb (u16_at block (check_offset + 2)) c.b

-- what `check_of` promises
abbrev pub CheckOfPromise : List ℕ → Check → Type 0
CheckOfPromise octets r = r ≡ check_of_lem octets
