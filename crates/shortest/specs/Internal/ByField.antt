-- Document 01's writer, field by field: it is proved to give document 01's octets.
use Rattle.std.specs.Prelude.{List, [], ◌∷◌, ◌++◌, ℕ, ◌+◌, length}
use Rattle.names.specs.Name.{Tail, write_name}
use Rattle.shortest.specs.Shortest.{Field, fixed, name}

-- fields at an offset, after names that left these tails
unfoldable pub written : List Tail → ℕ → List Field → List ℕ
written earlier at [] = []
written earlier at (fixed s ∷ fields) = s ++ written earlier (at + length s) fields
written earlier at (name text ∷ fields) =
    let one = write_name earlier at text in
    one.octets ++ written (earlier ++ one.tails) (at + length one.octets) fields
