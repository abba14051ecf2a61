-- The SID of a message: its size, its padding, and how it is read.
use Rattle.std.proofs.Common.{Ok}
use mathlib.Core.Path.{◌≡◌, refl, ap, ◌∙◌}
use mathlib.Core.Bool.{Bool, true, false, cond}
use mathlib.Core.List.{List}
use Prim.Native.Nat.{ℕ, ◌+◌, ◌≤◌, ◌<◌}
use native.Mathlib.Nat.{add-zero}
use native.Mathlib.Omega.{arith}
use lib.Dec.{eqb, ltb}
use lib.ListN.{length, get_or, drop}
use lib.Seq.{get_or-take, get_or-drop}
use borrow.Author.Tests.{ne_eqb, eqb-true, ltb-true, ltb-false}
use Rattle.octets.specs.Lists.{cut}
use Rattle.octets.proofs.Laws.Lists.{cut-length}
use Rattle.octets.proofs.Laws.Text.{without_range}
use Rattle.reader.specs.declared.field.Read.{Read}
use Rattle.reader.specs.Field.{read_octets}
use Rattle.octets.specs.declared.part.Stretch.{Stretch}
use Rattle.mailslot.specs.Message.{is_message_sid, padding, read_sid}
use Rattle.mailslot.specs.Internal.Shape.{sid_padding, is_sid_size}
use Rattle.mailslot.proofs.Laws.Field.{then_known, octets_there, octets-read, stretch_there, stretch_read}

pub sid_long : (s : List ℕ) → 68 < length s → is_message_sid s ≡ false
unfolding is_message_sid
sid_long s h = rw (ne_eqb (length s) 0 (λ e. omega arith), without_range 8 68 (length s) (λ k. h))

-- the stretch of a SID by its size and its own count
pub sid-judged : (s : List ℕ) (at size : ℕ) → at + size ≤ length s → is_message_sid (cut s at size) ≡ is_sid_size size (get_or s (at + 1) 0)
unfolding is_message_sid
sid-judged s at size h = rw (cut-length s at size h) (go (ltb 1 size) refl)
  where
    go : (b : Bool) → ltb 1 size ≡ b → is_sid_size size (get_or (cut s at size) 1 0) ≡ is_sid_size size (get_or s (at + 1) 0)
    go true e = ap (is_sid_size size) (get_or-take size (drop at s) 1 0 (ltb-true 1 size e) ∙ get_or-drop at s 1 0)
    go false e = let k : size ≤ 1 = ltb-false 1 size e in rw (without_range 8 68 size (λ q. omega arith))

-- where a SID of this size starts, and how it is read
abbrev pub sid_field : ℕ → ℕ → Read Stretch
sid_field size at = record { value = record { start = at + sid_padding size at; len = size }; next = at + sid_padding size at + size }

module _ (s : List ℕ) (at : ℕ) where
  pub sid_there : (size : ℕ) → at + sid_padding size at + size ≤ length s → read_sid (eqb size 0) size s at ≡ Ok (sid_field size at)
  sid_there size h = go (eqb size 0) refl h
    where
      go : (b : Bool) → eqb size 0 ≡ b → at + cond b 0 (padding at) + size ≤ length s
          → read_sid b size s at ≡ Ok (record { value = record { start = at + cond b 0 (padding at); len = size }; next = at + cond b 0 (padding at) + size })
      go true e h =
          let z : size ≡ 0 = eqb-true size 0 e in
          rw (z, add-zero at) (stretch_there s at 0 (omega arith))
      go false e h = rw (octets_there s at (padding at) (omega arith)) (stretch_there s (at + padding at) size h)

  pub sid-read : (size : ℕ) (f : Read Stretch) → read_sid (eqb size 0) size s at ≡ Ok f → (at + sid_padding size at + size ≤ length s) × (f ≡ sid_field size at)
  sid-read size f e = go (eqb size 0) refl e
    where
      go : (b : Bool) → eqb size 0 ≡ b → read_sid b size s at ≡ Ok f
          → (at + cond b 0 (padding at) + size ≤ length s) × (f ≡ record { value = record { start = at + cond b 0 (padding at); len = size }; next = at + cond b 0 (padding at) + size })
      go true q e =
          let z : size ≡ 0 = eqb-true size 0 q in
          rw (z, add-zero at) (stretch_read s at 0 f e)
      go false q e =
          then_known (λ x. record { value = cut s at (padding at); next = at + padding at }) (read_octets s at (padding at)) _ f (octets-read s at (padding at)) e (λ p e.
          stretch_read s (at + padding at) size f e)
