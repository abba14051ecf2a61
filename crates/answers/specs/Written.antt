-- What a call that writes gives: a filter, document 01, or a mailslot message, document 02, #105.
use Rattle.std.specs.Prelude.{◌≡◌, List, [], ℕ, length, Ok, Err}
use Rattle.std.specs.Result.{result_unwrap_or}
use Rattle.answers.specs.Try.{Try, number_of}

-- the answer of the writer, as the call returns it
abbrev pub written_as : Try (List ℕ) → Try ℕ
written_as (Err r) = Err r
written_as (Ok octets) = Ok (length octets)

-- the octets that it writes: none where it refuses
abbrev pub written_octets : Try (List ℕ) → List ℕ
written_octets (Err r) = []
written_octets (Ok octets) = octets

-- what is returned, with the number and the length of what writing gives: length 0 with a refusal
pub record WrittenOf (o : Try (List ℕ)) (r : Try ℕ) : Type 0 where
  pub same : r ≡ written_as o
  pub numbered : number_of r ≡ number_of o
  pub sized : result_unwrap_or r 0 ≡ length (written_octets o)
