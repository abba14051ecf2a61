-- Document 01, "Answer numbers" 1 to 4: an image judged, each number over the whole image once the earlier ones passed.
use Rattle.std.specs.Prelude.{◌≡◌, Bool, not, ◌&&◌, List, ℕ, ◌%◌, eqb, length, Ok, Err}
use Rattle.answers.specs.declared.Refusal.TheVariants.{ImageLength, BlockCheck, BlockLayout, TableWhole}
use Rattle.answers.specs.Try.{Try, refused_if, number_of, ◌>>=◌}
use Rattle.octets.specs.{Lists.all, Text.within}
use Rattle.table_whole.specs.Whole.{good_whole}
use Rattle.table.specs.Block.{block_size, image_least, image_most, blocks_of}
use Rattle.table.specs.Server.{server_place}
use Rattle.table.specs.Table.{Table, table_of, table_from}
use Rattle.table_check.specs.Check.{good_check}
use Rattle.table_layout.specs.Layout.{layouts_from}

-- a multiple of 512 from 1,024 to 65,536
unfoldable pub good_length : List ℕ → Bool
good_length image = within image_least image_most (length image) && eqb (length image % block_size) 0

-- the table of an image, or why there is none
unfoldable pub table_in : List ℕ → Try Table
table_in image =
    let blocks = blocks_of image in
    refused_if (not (good_length image)) ImageLength
    (refused_if (not (all good_check blocks)) BlockCheck
    (refused_if (not (layouts_from server_place blocks)) BlockLayout
    (refused_if (not (good_whole (table_of blocks))) TableWhole (Ok (table_of blocks)))))

-- an image that passes 1 to 4
abbrev pub Accepted : List ℕ → Type 0
Accepted image = table_in image ≡ Ok (table_from image)

-- the answer of judging an image, its table forgotten
abbrev pub judged_as : Try Table → Try (Unit {0})
judged_as judged = judged >>= λ t. Ok tt

-- what `judge` promises
pub record JudgePromise (image : List ℕ) (r : Try (Unit {0})) : Type 0 where
  pub same : r ≡ judged_as (table_in image)
  pub numbered : number_of r ≡ number_of (table_in image)

-- an image that passes, as its octets
abbrev pub image_in : List ℕ → Try (List ℕ)
image_in image = table_in image >>= λ t. Ok image
