-- Document 01, "The table image": the blocks of an image, and what each block has at which octets.
use Rattle.std.specs.Prelude.{List, ℕ, ◌/◌, length, get_or}
use Rattle.octets.specs.{Lists.cut, Lists.pieces, Number.u16_at}
use Rattle.table.specs.{declared.BlockPlace.BlockPlace, Countings.block_place}

abbrev pub block_size : ℕ
block_size = 512

-- 2 to 128 blocks
abbrev pub image_least : ℕ
image_least = 1024

abbrev pub image_most : ℕ
image_most = 65536

-- the blocks of an image
unfoldable pub blocks_of : List ℕ → List (List ℕ)
blocks_of image = pieces (length image / block_size) block_size image

abbrev pub kind_in : List ℕ → ℕ
kind_in block = get_or block 0 0

abbrev pub version_in : List ℕ → ℕ
version_in block = get_or block 1 0

-- the place that a block says is its own
abbrev pub place_in : List ℕ → BlockPlace
place_in block = block_place (u16_at block 2)

abbrev pub body_offset : ℕ
body_offset = 4

abbrev pub body_size : ℕ
body_size = 504

abbrev pub body : List ℕ → List ℕ
body block = cut block body_offset body_size

-- the check stands after the body
abbrev pub check_offset : ℕ
check_offset = 508
