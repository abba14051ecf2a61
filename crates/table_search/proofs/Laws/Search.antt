-- Laws of the search: a record's test, record by record, and block by block over the table's lists.
use Rattle.std.proofs.Common.{Option, None, Some}
use mathlib.Core.Path.{◌≡◌, refl, sym, ap, ap₂, ◌∙◌}
use mathlib.Core.Bool.{Bool, true, false, cond, not, ◌&&◌, and-false}
use mathlib.Core.List.{List, [], ◌∷◌, map, flat_map}
use Prim.Native.Nat.{ℕ, ◌+◌, ◌/◌, ◌≤◌, ◌<◌}
use lib.Dec.{eqb}
use lib.ListN.{length, drop}
use Rattle.octets.specs.Lists.{first, keep, keep_if}
use Rattle.octets.specs.Text.{all_zero}
use Rattle.octets.proofs.Laws.Lists.{or_else, first-append, first_here, first_next, first-end}
use Rattle.table.specs.declared.record.RecordKind.{RecordKind}
use Rattle.table.specs.Block.{block_size, blocks_of, kind_in, body}
use Rattle.table.specs.Internal.BlockAt.{block_at}
use Rattle.table.specs.Countings.{block_place}
use Rattle.table.specs.Format.{format_of, records_in}
use Rattle.table.specs.Table.{is_used, bodies}
use Rattle.table.proofs.Laws.Table.{blocks_step, blocks_end}
use Rattle.table_search.proofs.Laws.Record.{records_at, record_there, stands_there, stands, past_records}
use Rattle.table_find.specs.Internal.Search.{passes, first_in_body, first_in_block, first_in}

-- a record passes where it is in use and the test says so; z and b are what the code asked
module _ (t : List ℕ → Bool) (r : List ℕ) (b : Bool) (told : b ≡ t r) where
  pub passed : (z : Bool) → z ≡ all_zero r → z ≡ false → b ≡ true → passes t r ≡ true
  passed z is e f = ap₂ (λ (x y : Bool). not x && y) (sym is ∙ e) (sym told ∙ f)

  pub failed : b ≡ false → passes t r ≡ false
  failed f = ap (λ (y : Bool). is_used r && y) (sym told ∙ f) ∙ and-false (is_used r)

pub unused_fails : (t : List ℕ → Bool) (r : List ℕ) (z : Bool) → z ≡ all_zero r → z ≡ true → passes t r ≡ false
unused_fails t r z is e = ap (λ (x : Bool). not x && t r) (sym is ∙ e)

module _ (k : RecordKind) (t : List ℕ → Bool) where
  -- what is left of a body's records at a place
  module _ (image : List ℕ) (body i : ℕ) where
    abbrev left : ℕ → Option (List ℕ)
    left n = first (passes t) (drop n (records_at k image body))

    module _ (h : i < (format_of k).count) where
      pub found_there : passes t (record_there k image body i) ≡ true → Some (record_there k image body i) ≡ left i
      found_there e =
          let q = stands_there k image body i h in
          ap Some (sym q) ∙ first_here (passes t) (records_at k image body) i [] (stands k image body i h) (ap (passes t) q ∙ e)

      pub left_next : passes t (record_there k image body i) ≡ false → left (i + 1) ≡ left i
      left_next e = first_next (passes t) (records_at k image body) i [] (stands k image body i h) (ap (passes t) (stands_there k image body i h) ∙ e)

    pub left_none : (format_of k).count ≤ i → None ≡ left i
    left_none h = first-end (passes t) (records_at k image body) i (past_records k image body i h)

  first_in-cons : (block : List ℕ) (blocks : List (List ℕ)) → first_in k t (block ∷ blocks) ≡ or_else (first_in_block k t block) (first_in k t blocks)
  unfolding first_in first_in_block first_in_body bodies keep flat_map
  first_in-cons block blocks = go (eqb (kind_in block) (format_of k).kind)
    where
      within : List ℕ → List (List ℕ)
      within = records_in (format_of k)

      rest : List (List ℕ)
      rest = keep (λ c. eqb (kind_in c) (format_of k).kind) blocks

      go : (b : Bool)
          → first (passes t) (flat_map within (map body (keep_if b block rest)))
          ≡ or_else (cond b (first (passes t) (within (body block))) None) (first (passes t) (flat_map within (map body rest)))
      go true = first-append (passes t) (within (body block)) (flat_map within (map body rest))
      go false = refl

  -- what is left at a place: what the block there gives, or what is left after it
  pub search_step : (image : List ℕ) (i : ℕ) (there : Option (List ℕ))
      → i < length image / block_size
      → there ≡ first_in_block k t (block_at image (block_place i))
      → or_else there (first_in k t (drop (i + 1) (blocks_of image))) ≡ first_in k t (drop i (blocks_of image))
  search_step image i there h e =
      ap (λ (o : Option (List ℕ)). or_else o (first_in k t (drop (i + 1) (blocks_of image)))) e
      ∙ sym (ap (first_in k t) (blocks_step image i h) ∙ first_in-cons (block_at image (block_place i)) (drop (i + 1) (blocks_of image)))

  pub search_end : (image : List ℕ) (i : ℕ) → length image / block_size ≤ i → None ≡ first_in k t (drop i (blocks_of image))
  unfolding first_in bodies keep flat_map first
  search_end image i h = rw (blocks_end image i h)
