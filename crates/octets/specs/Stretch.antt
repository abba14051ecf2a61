-- A stretch of octets.
use Rattle.std.specs.Prelude.{List, ℕ}
use Rattle.octets.specs.{Lists.cut, declared.part.Stretch.Stretch}

-- the octets of a stretch, those of it that are there
abbrev pub stretch_of : List ℕ → Stretch → List ℕ
stretch_of s t = cut s t.start t.len
