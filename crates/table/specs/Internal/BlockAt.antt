-- The block at a place of an image.
use Rattle.std.specs.Prelude.{List, ℕ, ◌*◌}
use Rattle.octets.specs.Lists.{cut}
use Rattle.table.specs.declared.BlockPlace.{BlockPlace}
use Rattle.table.specs.Block.{block_size}

abbrev pub block_at : List ℕ → BlockPlace → List ℕ
block_at image place = cut image (block_size * place.0) block_size
