-- What writing leaves in a lent buffer.
use Rattle.std.specs.Prelude.{List, ◌++◌, ℕ, length, drop}

-- octets laid over a buffer's first ones; the others stay as they were
unfoldable pub over : List ℕ → List ℕ → List ℕ
over xs d = xs ++ drop (length xs) d
