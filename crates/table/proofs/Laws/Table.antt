-- Laws of an image's blocks: by their places, and what each adds to the table's lists.
use mathlib.Core.Path.{◌≡◌, refl, sym, ap}
use mathlib.Core.Bool.{Bool, true, false}
use mathlib.Core.List.{List, [], ◌∷◌, ◌++◌, map}
use Prim.Native.Nat.{ℕ, ◌+◌, ◌/◌, ◌≤◌, ◌<◌}
use native.Mathlib.Numerals.{add-one}
use lib.Dec.{eqb}
use lib.ListN.{length, get_or, drop, drop_of_length-le}
use lib.Seq.{drop-cons}
use Rattle.octets.specs.Lists.{keep, keep_if}
use Rattle.octets.proofs.Laws.Lists.{length-pieces, get_d_pieces}
use Rattle.table.specs.Block.{block_size, blocks_of, kind_in, body}
use Rattle.table.specs.Internal.BlockAt.{block_at}
use Rattle.table.specs.Countings.{block_place}
use Rattle.table.specs.Table.{bodies}

pub length_blocks : (image : List ℕ) → length (blocks_of image) ≡ length image / block_size
unfolding blocks_of
length_blocks image = length-pieces (length image / block_size) block_size image

-- what is left at a place: the block there, and what is left after it
module _ (image : List ℕ) (i : ℕ) (h : i < length image / block_size) where
  pub block_there : get_or (blocks_of image) i [] ≡ block_at image (block_place i)
  unfolding blocks_of
  block_there = get_d_pieces (length image / block_size) block_size image i h

  pub blocks_step : drop i (blocks_of image) ≡ block_at image (block_place i) ∷ drop (i + 1) (blocks_of image)
  blocks_step =
      let k : i < length (blocks_of image) = rw (length_blocks image) h in
      rw (add-one, drop-cons (blocks_of image) i [], block_there)

  -- its body
  pub body_there : body (block_at image (block_place i)) ≡ body (get_or (blocks_of image) i [])
  body_there = ap body (sym block_there)

pub blocks_end : (image : List ℕ) (i : ℕ) → length image / block_size ≤ i → drop i (blocks_of image) ≡ []
blocks_end image i h =
    let k : length (blocks_of image) ≤ i = rw (length_blocks image) h in
    drop_of_length-le (blocks_of image) k

-- the body that a block adds to those of a kind
abbrev pub body_if : Bool → List ℕ → List (List ℕ)
body_if true block = body block ∷ []
body_if false block = []

pub bodies-cons : (kind : ℕ) (block : List ℕ) (blocks : List (List ℕ)) → bodies kind (block ∷ blocks) ≡ body_if (eqb (kind_in block) kind) block ++ bodies kind blocks
unfolding bodies keep
bodies-cons kind block blocks = go (eqb (kind_in block) kind)
  where
    go : (b : Bool) → map body (keep_if b block (keep (λ c. eqb (kind_in c) kind) blocks)) ≡ body_if b block ++ map body (keep (λ c. eqb (kind_in c) kind) blocks)
    go true = refl
    go false = refl
