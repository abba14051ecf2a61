-- One pass over the subnets: record by record, block by block.
use Rattle.std.proofs.Common.{Option}
use mathlib.Core.Path.{◌≡◌, refl, sym, ap, ◌∙◌}
use mathlib.Core.Bool.{Bool, true, false, cond, ◌&&◌}
use mathlib.Core.List.{List, [], ◌∷◌, ◌++◌, map, flat_map}
use Prim.Native.Nat.{ℕ, ◌+◌, ◌/◌, ◌≤◌, ◌<◌}
use native.Mathlib.Numerals.{add-one}
use lib.Dec.{eqb}
use lib.ListN.{length, get_or, drop, drop_of_length-le}
use lib.Seq.{drop-cons}
use Rattle.octets.specs.Lists.{keep, keep_if}
use Rattle.table.specs.declared.record.RecordKind.TheVariants as kind
use Rattle.table.specs.Block.{block_size, blocks_of, kind_in, body}
use Rattle.table.specs.Internal.BlockAt.{block_at}
use Rattle.table.specs.Countings.{block_place}
use Rattle.table.specs.Format.{records_in}
use Rattle.table.specs.Subnet.{Subnet, subnet_format, subnet_of}
use Rattle.table.specs.Table.{is_used, bodies}
use Rattle.table.proofs.Laws.Table.{blocks_step, blocks_end}
use Rattle.table_find.specs.Find.{in_subnet}
use Rattle.table_search.proofs.Laws.Record.{records_at, record_there, stands_there, stands, past_records}
use Rattle.table_find.specs.Internal.Nearest.{longer, nearer_held, nearest_over, nearest_in_body, nearest_in}

module _ (address : ℕ) where
  -- what is left at a place: the record there, and what is left after it
  over_next : (best : Option Subnet) (rs : List (List ℕ)) (i : ℕ) → i < length rs
      → nearest_over address (nearer_held address best (get_or rs i [])) (drop (i + 1) rs) ≡ nearest_over address best (drop i rs)
  unfolding nearest_over
  over_next best rs i h = rw (add-one, drop-cons rs i [])

  over_end : (best : Option Subnet) (rs : List (List ℕ)) (i : ℕ) → length rs ≤ i → best ≡ nearest_over address best (drop i rs)
  unfolding nearest_over
  over_end best rs i h = rw (drop_of_length-le rs)

  -- one that holds the address comes in, and another doesn't
  pub held_in : (best : Option Subnet) (r : List ℕ) → (is_used r && in_subnet address (subnet_of r)) ≡ true → longer best (subnet_of r) ≡ nearer_held address best r
  held_in best r e = rw e

  pub left_out : (best : Option Subnet) (r : List ℕ) → (is_used r && in_subnet address (subnet_of r)) ≡ false → best ≡ nearer_held address best r
  left_out best r e = rw e

  -- what is left of a body's records at a place
  module _ (image : List ℕ) (body i : ℕ) (best : Option Subnet) where
    pub over_record : (there : Option Subnet) → i < subnet_format.count → there ≡ nearer_held address best (record_there kind.Subnet image body i)
        → nearest_over address there (drop (i + 1) (records_at kind.Subnet image body)) ≡ nearest_over address best (drop i (records_at kind.Subnet image body))
    over_record there h e =
        let rs = records_at kind.Subnet image body in
        ap (λ (o : Option Subnet). nearest_over address o (drop (i + 1) rs)) (e ∙ ap (nearer_held address best) (sym (stands_there kind.Subnet image body i h)))
        ∙ over_next best rs i (stands kind.Subnet image body i h)

    pub over_body : subnet_format.count ≤ i → best ≡ nearest_over address best (drop i (records_at kind.Subnet image body))
    over_body h = over_end best (records_at kind.Subnet image body) i (past_records kind.Subnet image body i h)

  over-append : (best : Option Subnet) (xs ys : List (List ℕ)) → nearest_over address best (xs ++ ys) ≡ nearest_over address (nearest_over address best xs) ys
  unfolding nearest_over
  over-append best [] ys = refl
  over-append best (x ∷ xs) ys = over-append (nearer_held address best x) xs ys

  -- the nearest after a block; one of another kind has none
  abbrev after_block : Option Subnet → List ℕ → Option Subnet
  after_block best block = cond (eqb (kind_in block) subnet_format.kind) (nearest_in_body address best (body block)) best

  in_cons : (best : Option Subnet) (block : List ℕ) (blocks : List (List ℕ)) → nearest_in address best (block ∷ blocks) ≡ nearest_in address (after_block best block) blocks
  unfolding nearest_in nearest_in_body bodies keep flat_map
  in_cons best block blocks = go (eqb (kind_in block) subnet_format.kind)
    where
      rest : List (List ℕ)
      rest = keep (λ c. eqb (kind_in c) subnet_format.kind) blocks

      go : (b : Bool)
          → nearest_over address best (flat_map (records_in subnet_format) (map body (keep_if b block rest)))
          ≡ nearest_over address (cond b (nearest_over address best (records_in subnet_format (body block))) best) (flat_map (records_in subnet_format) (map body rest))
      go true = over-append best (records_in subnet_format (body block)) (flat_map (records_in subnet_format) (map body rest))
      go false = refl

  -- what is left at a place: a block of subnets, and one of another kind
  step : (best : Option Subnet) (image : List ℕ) (i : ℕ) → i < length image / block_size
      → nearest_in address (after_block best (block_at image (block_place i))) (drop (i + 1) (blocks_of image)) ≡ nearest_in address best (drop i (blocks_of image))
  step best image i h = sym (ap (nearest_in address best) (blocks_step image i h) ∙ in_cons best (block_at image (block_place i)) (drop (i + 1) (blocks_of image)))

  pub in_block : (best there : Option Subnet) (image : List ℕ) (i : ℕ) → i < length image / block_size
      → eqb (kind_in (block_at image (block_place i))) subnet_format.kind ≡ true
      → there ≡ nearest_in_body address best (body (block_at image (block_place i)))
      → nearest_in address there (drop (i + 1) (blocks_of image)) ≡ nearest_in address best (drop i (blocks_of image))
  in_block best there image i h e f =
      let made : there ≡ after_block best (block_at image (block_place i)) = rw e f in
      ap (λ (o : Option Subnet). nearest_in address o (drop (i + 1) (blocks_of image))) made ∙ step best image i h

  pub past_block : (best : Option Subnet) (image : List ℕ) (i : ℕ) → i < length image / block_size
      → eqb (kind_in (block_at image (block_place i))) subnet_format.kind ≡ false
      → nearest_in address best (drop (i + 1) (blocks_of image)) ≡ nearest_in address best (drop i (blocks_of image))
  past_block best image i h e =
      let kept : best ≡ after_block best (block_at image (block_place i)) = rw e in
      ap (λ (o : Option Subnet). nearest_in address o (drop (i + 1) (blocks_of image))) kept ∙ step best image i h

  pub nearest_end : (best : Option Subnet) (image : List ℕ) (i : ℕ) → length image / block_size ≤ i → best ≡ nearest_in address best (drop i (blocks_of image))
  unfolding nearest_in bodies keep flat_map nearest_over
  nearest_end best image i h = rw (blocks_end image i h)
