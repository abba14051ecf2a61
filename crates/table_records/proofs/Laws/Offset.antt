-- Laws of offsets: the records there are those of the table, in order.
use mathlib.Core.Path.{◌≡◌, refl, sym, ap, ◌∙◌, subst}
use mathlib.Core.Bool.{Bool, true, false}
use mathlib.Core.List.{List, [], ◌∷◌, ◌++◌, flat_map, map-append, append_assoc}
use Prim.Native.Nat.{ℕ, zero, suc, ◌+◌, ◌-◌, ◌*◌, ◌/◌, ◌≤◌, ◌<◌}
use native.Mathlib.Nat.{mul-suc, mul-le-mul_left}
use native.Mathlib.Numerals.{add-one}
use native.Mathlib.Omega.{arith}
use lib.Dec.{eqb}
use lib.ListN.{length, get_or, take, drop, set}
use lib.Seq.{drop-drop, take-suc-set}
use Rattle.octets.specs.Lists.{cut, keep, keep_if, pieces}
use Rattle.octets.proofs.Laws.Lists.{keep_append, cut-cut, pieces-take}
use Rattle.table.specs.declared.record.RecordFormat.{RecordFormat}
use Rattle.table.specs.declared.record.RecordKind.{RecordKind}
use Rattle.table.specs.declared.record.RecordKind.TheVariants.{Context, Account, Site, Subnet}
use Rattle.table.specs.Block.{block_size, body_offset, body_size, blocks_of, body}
use Rattle.table.specs.Internal.BlockAt.{block_at}
use Rattle.table.specs.Countings.{block_place}
use Rattle.table.specs.Format.{format_of}
use Rattle.table.specs.Table.{bodies, is_used, records_of}
use Rattle.table.proofs.Laws.Table.{body_if, bodies-cons, blocks_step, blocks_end}
use Rattle.table_records.specs.Internal.Offset.{FitsBody, records_at, offsets_from, used_of}

pub one_more : (n i : ℕ) → n * (i + 1) ≡ n * i + n
one_more n i = rw add-one (mul-suc n i)

-- room for each of m is enough
pub room_left : (n i m : ℕ) → i < m → n * i + n ≤ n * m
room_left n i m h = subst (λ (k : ℕ). k ≤ n * m) (mul-suc n i) (mul-le-mul_left n h)

-- the records at the offsets found are those found in the octets themselves
pub offsets_records : (image : List ℕ) (w at n : ℕ) → records_at image w (offsets_from image w at n) ≡ keep is_used (pieces n w (drop at image))
unfolding offsets_from keep pieces
offsets_records image w at zero = refl
offsets_records image w at (suc n) = go (is_used (cut image at w)) (offsets_records image w (at + w) n ∙ ap (λ (s : List ℕ). keep is_used (pieces n w s)) (sym (drop-drop w at image)))
  where
    rest : List (List ℕ)
    rest = keep is_used (pieces n w (drop w (drop at image)))

    go : (b : Bool) → records_at image w (offsets_from image w (at + w) n) ≡ rest → records_at image w (keep_if b at (offsets_from image w (at + w) n)) ≡ keep_if b (cut image at w) rest
    go true e = ap (λ (rs : List (List ℕ)). cut image at w ∷ rs) e
    go false e = e

-- in the block at place i: n records of w octets, which fit into its body
pub block_records : (image : List ℕ) (w i n : ℕ) → n * w ≤ body_size
    → records_at image w (offsets_from image w (block_size * i + body_offset) n) ≡ keep is_used (pieces n w (body (block_at image (block_place i))))
block_records image w i n h =
    offsets_records image w (block_size * i + body_offset) n
    ∙ ap (keep is_used) (sym (pieces-take n w body_size (drop (block_size * i + body_offset) image) h) ∙ ap (pieces n w) (sym (cut-cut image (512 * i) 512 4 504 (omega arith))))

-- after the first i of the n records of a body: one more, or none
module _ (image : List ℕ) (w from n i : ℕ) where
  pub offsets_step : i < n → offsets_from image w (from + w * i) (n - i) ≡ keep_if (is_used (cut image (from + w * i) w)) (from + w * i) (offsets_from image w (from + w * (i + 1)) (n - (i + 1)))
  unfolding offsets_from
  offsets_step h =
      let e : n - i ≡ suc (n - (i + 1)) = omega arith in
      let f : from + w * i + w ≡ from + w * (i + 1) = omega (arith, one_more w i) in
      ap (offsets_from image w (from + w * i)) e ∙ ap (λ (k : ℕ). keep_if (is_used (cut image (from + w * i) w)) (from + w * i) (offsets_from image w k (n - (i + 1)))) f

  pub offsets_end : n ≤ i → offsets_from image w (from + w * i) (n - i) ≡ []
  unfolding offsets_from
  offsets_end h =
      let e : n - i ≡ 0 = omega arith in
      ap (offsets_from image w (from + w * i)) e

-- the offsets so far, and those that are left, where one is put after the first k
pub put_offset : (out : List ℕ) (k here : ℕ) (rest : List ℕ) → k < length out → take (k + 1) (set out k here) ++ rest ≡ take k out ++ (here ∷ rest)
put_offset out k here rest h = rw (add-one, take-suc-set out k here h) (append_assoc (take k out) (here ∷ []) rest)

-- what a block adds to the records of a format
abbrev pub used_if : Bool → RecordFormat → List ℕ → List (List ℕ)
used_if true format block = keep is_used (pieces format.count format.width (body block))
used_if false format block = []

used-cons : (format : RecordFormat) (block : List ℕ) (blocks : List (List ℕ))
    → used_of format (block ∷ blocks) ≡ used_if (eqb (get_or block 0 0) format.kind) format block ++ used_of format blocks
unfolding used_of flat_map
used-cons format block blocks =
    ap (λ (bs : List (List ℕ)). keep is_used (flat_map (pieces format.count format.width) bs)) (bodies-cons format.kind block blocks) ∙ go (eqb (get_or block 0 0) format.kind)
  where
    those : List (List ℕ)
    those = flat_map (pieces format.count format.width) (bodies format.kind blocks)

    go : (b : Bool) → keep is_used (flat_map (pieces format.count format.width) (body_if b block ++ bodies format.kind blocks)) ≡ used_if b format block ++ keep is_used those
    go true = keep_append is_used (pieces format.count format.width (body block)) those
    go false = refl

-- past the block at place i: its offsets are put after those so far, or it is of another kind
module _ (format : RecordFormat) (image : List ℕ) (i : ℕ) where
  abbrev here : List ℕ
  here = block_at image (block_place i)

  rest : ℕ → List (List ℕ)
  rest j = used_of format (drop j (blocks_of image))

  pub used-end : length image / block_size ≤ i → used_of format (drop i (blocks_of image)) ≡ []
  unfolding used_of bodies keep flat_map
  used-end h = ap (used_of format) (blocks_end image i h)

  module _ (h : i < length image / block_size) where
    used_step : used_of format (drop i (blocks_of image)) ≡ used_if (eqb (get_or here 0 0) format.kind) format here ++ rest (i + 1)
    unfolding rest
    used_step = ap (used_of format) (blocks_step image i h) ∙ used-cons format here (drop (i + 1) (blocks_of image))

    pub step_in : (so_far offsets : List ℕ) → format.count * format.width ≤ body_size → eqb (get_or here 0 0) format.kind ≡ true → offsets ≡ so_far ++ offsets_from image format.width (block_size * i + body_offset) format.count
        → records_at image format.width offsets ++ used_of format (drop (i + 1) (blocks_of image)) ≡ records_at image format.width so_far ++ used_of format (drop i (blocks_of image))
    unfolding rest
    step_in so_far offsets fits t e =
        let w = format.width in
        let n = format.count in
        ap (λ (ps : List ℕ). records_at image w ps ++ rest (i + 1)) e
        ∙ ap (λ (rs : List (List ℕ)). rs ++ rest (i + 1)) (map-append (λ at. cut image at w) so_far (offsets_from image w (block_size * i + body_offset) n) ∙ ap (λ (rs : List (List ℕ)). records_at image w so_far ++ rs) (block_records image w i n fits))
        ∙ append_assoc (records_at image w so_far) (keep is_used (pieces n w (body here))) (rest (i + 1))
        ∙ ap (λ (rs : List (List ℕ)). records_at image w so_far ++ rs) (sym (used_step ∙ ap (λ (b : Bool). used_if b format here ++ rest (i + 1)) t))

    pub step_over : eqb (get_or here 0 0) format.kind ≡ false → used_of format (drop (i + 1) (blocks_of image)) ≡ used_of format (drop i (blocks_of image))
    unfolding rest
    step_over t = sym (used_step ∙ ap (λ (b : Bool). used_if b format here ++ rest (i + 1)) t)

-- every kind's records fit into a body
pub format_fits : (kind : RecordKind) → FitsBody (format_of kind)
format_fits Context = record { in_body = omega arith; some = omega arith; few = omega arith }
format_fits Account = record { in_body = omega arith; some = omega arith; few = omega arith }
format_fits Site = record { in_body = omega arith; some = omega arith; few = omega arith }
format_fits Subnet = record { in_body = omega arith; some = omega arith; few = omega arith }

pub used_records : (kind : RecordKind) (blocks : List (List ℕ)) → used_of (format_of kind) blocks ≡ records_of kind blocks
unfolding used_of records_of
used_records kind blocks = refl
