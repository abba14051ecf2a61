-- The records of a body by their places.
use mathlib.Core.Path.{◌≡◌, ◌∙◌}
use mathlib.Core.List.{List, []}
use Prim.Native.Nat.{ℕ, ◌+◌, ◌*◌, ◌<◌, ◌≤◌}
use lib.ListN.{length, get_or}
use Rattle.octets.specs.Lists.{cut}
use Rattle.octets.proofs.Laws.Lists.{length-pieces, get_d_pieces, cut-cut}
use Rattle.table.specs.declared.record.RecordKind.{RecordKind}
use Rattle.table.specs.Block.{body_size}
use Rattle.table.specs.Format.{format_of, records_in}
use Rattle.table.proofs.Laws.Format.{record_fits}

module _ (k : RecordKind) (image : List ℕ) (body : ℕ) where
  -- the records of the body at an offset of the image
  abbrev pub records_at : List (List ℕ)
  records_at = records_in (format_of k) (cut image body body_size)

  pub count_records : length records_at ≡ (format_of k).count
  count_records = length-pieces (format_of k).count (format_of k).width (cut image body body_size)

  module _ (i : ℕ) where
    abbrev pub record_there : List ℕ
    record_there = cut image (body + (format_of k).width * i) (format_of k).width

    pub stands_there : i < (format_of k).count → get_or records_at i [] ≡ record_there
    stands_there h =
        let format = format_of k in
        get_d_pieces format.count format.width (cut image body body_size) i h ∙ cut-cut image body body_size (format.width * i) format.width (record_fits k i h)

    pub stands : i < (format_of k).count → i < length records_at
    stands h = rw count_records h

    pub past_records : (format_of k).count ≤ i → length records_at ≤ i
    past_records h = rw count_records h
