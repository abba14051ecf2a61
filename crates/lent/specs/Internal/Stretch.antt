-- The octets of a stretch: those of it that lie in the slice it is of.
use Rattle.std.specs.Prelude.{List, ℕ}
use native.Mathlib.Bridge.{le_by_compare, IsLe}
use Rattle.octets.specs.Lists.{cut}
use Rattle.lent.specs.declared.stretch.Lender.{Lender}
use Rattle.lent.specs.declared.stretch.Lender.TheVariants.{Table, Request}
use Rattle.lent.specs.declared.stretch.Stretch.{Stretch}

-- one of two lent slices
abbrev pub lent_by : List ℕ → List ℕ → Lender → List ℕ
lent_by table request Table = table
lent_by table request Request = request

abbrev pub octets_at : List ℕ → List ℕ → Stretch → List ℕ
octets_at table request s = cut (lent_by table request s.lender) s.start s.len

-- what an array of stretches has past its end
abbrev pub empty_stretch : Stretch
unfolding IsLe
empty_stretch = record { lender = Table; start = 0; len = 0; short = le_by_compare 0 255 tt }
