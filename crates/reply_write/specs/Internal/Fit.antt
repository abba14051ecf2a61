-- Octets written where there is room for all of them, and else none.
use Rattle.std.specs.Prelude.{◌≡◌, List, [], ℕ, ◌≤◌, ◌<◌, length, Ok, Err}
use Rattle.answers.specs.Try.{Try}
use Rattle.answers.specs.declared.Refusal.TheVariants.{NoRoom}

abbrev pub FittedTo : List ℕ → ℕ → Try ℕ → Type 0
FittedTo octets room (Ok n) = (n ≡ length octets) × (length octets ≤ room)
FittedTo octets room (Err r) = (room < length octets) × (r ≡ NoRoom)

abbrev pub octets_fitted : List ℕ → Try ℕ → List ℕ
octets_fitted octets (Ok n) = octets
octets_fitted octets (Err r) = []
