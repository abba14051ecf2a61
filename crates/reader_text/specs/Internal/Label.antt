-- A label as it is put after a text.
use Rattle.std.specs.Prelude.{List, ◌∷◌, ℕ, zero, suc}

-- a dot parts it from the label before, if so many octets written out have one
abbrev pub dotted : ℕ → List ℕ → List ℕ
dotted zero label = label
dotted (suc n) label = 46 ∷ label
