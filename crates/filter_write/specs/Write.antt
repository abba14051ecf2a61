-- Document 01, "The filter": the writer, with 6, 5 and 19.
use Rattle.octets.specs.{Buffer.over, Lists.any}
use Rattle.std.specs.Prelude.{◌≡◌, not, List, ℕ, ltb, length, Ok, is_some}
use Rattle.answers.specs.declared.Refusal.TheVariants.{FilterShape, FilterLength, NoRoom}
use Rattle.answers.specs.Try.{Try, refused_if}
use Rattle.answers.specs.Written.{written_octets, WrittenOf}
use Rattle.filter.specs.declared.request.Request.{Request}
use Rattle.filter_position.specs.Filter.{filter_limit}
use Rattle.filter_octets.specs.Octets.{filter_octets}
use Rattle.filter.specs.Request.{clause_names, clause}

unfoldable pub filter_for : List ℕ → Request → ℕ → Try (List ℕ)
filter_for source r room =
    let octets = filter_octets source r in
    refused_if (not (any (λ name. is_some (clause r name)) clause_names)) FilterShape
    (refused_if (ltb filter_limit (length octets)) FilterLength
    (refused_if (ltb room (length octets)) NoRoom (Ok octets)))

-- what `write_filter` promises to return, and to leave in the buffer
abbrev pub WriteFilterReturns : List ℕ → Request → List ℕ → Try ℕ → Type 0
WriteFilterReturns source request before = WrittenOf (filter_for source request (length before))

abbrev pub WriteFilterLeaves : List ℕ → Request → List ℕ → List ℕ → Type 0
WriteFilterLeaves source request before after = after ≡ over (written_octets (filter_for source request (length before))) before
