-- What a ping's clauses are stretches of, where the ping came as a mailslot message.
use Rattle.std.specs.Prelude.{◌≡◌, List, ℕ, length, Option}
use Rattle.filter.specs.Request.{octets_of}
use Rattle.octets.specs.{Lists.cut, declared.part.Stretch.Stretch}
use Rattle.mailslot_answer.specs.Ping.{unless_empty}

-- room for the longest user, 63 octets, and the longest SID, 68
abbrev pub source_size : ℕ
source_size = 131

-- the clause of a stretch, whatever octets stand there: absent where it is empty
abbrev pub ClauseAt : ℕ → ℕ → Option Stretch → Type 0
ClauseAt start len clause = (s x : List ℕ) → cut s start len ≡ x → length x ≡ len → octets_of s clause ≡ unless_empty x
