-- Where the records of one kind stand in an image.
use mathlib.Core.List.{List, [], map, flat_map}
use Rattle.std.specs.Prelude.{ℕ, zero, suc, ◌+◌, ◌*◌, ◌/◌, ◌≤◌}
use Rattle.octets.specs.Lists.{cut, keep, keep_if, pieces}
use Rattle.table.specs.declared.record.RecordFormat.{RecordFormat}
use Rattle.table.specs.Block.{block_size, body_size, image_most}
use Rattle.table.specs.Table.{bodies, is_used}

-- how many blocks the longest image has
abbrev pub blocks_most : ℕ
blocks_most = image_most / block_size

-- the records of w octets at offsets
abbrev pub records_at : List ℕ → ℕ → List ℕ → List (List ℕ)
records_at image w offsets = map (λ at. cut image at w) offsets

-- the offsets of those of n records from an offset on that are used
unfoldable pub offsets_from : List ℕ → ℕ → ℕ → ℕ → List ℕ
offsets_from image w at zero = []
offsets_from image w at (suc n) = keep_if (is_used (cut image at w)) at (offsets_from image w (at + w) n)

-- its records fit into a body
pub record FitsBody (format : RecordFormat) : Type 0 where
  pub in_body : format.count * format.width ≤ body_size
  pub some : 1 ≤ format.width
  pub few : format.count ≤ 42

-- the used records of a format
unfoldable pub used_of : RecordFormat → List (List ℕ) → List (List ℕ)
used_of format blocks = keep is_used (flat_map (pieces format.count format.width) (bodies format.kind blocks))
