-- What stands at an offset, from the tests on its octets: the cases that no walk goes on from, and the masks.
use mathlib.Core.Path.{◌≡◌, ◌∙◌, ap}
use Prim.Native.Nat.{ℕ, ◌+◌, ◌*◌, ◌/◌, ◌%◌, ◌<◌, ◌≤◌}
use native.Mathlib.Nat.{mod-eq_of_lt, div-lt_iff_lt-mul}
use native.Mathlib.Omega.{arith}
use mathlib.Core.List.{List}
use lib.Bits.{bit_and, and_mask, and_high}
use lib.Dec.{lit<}
use lib.ListN.{length, get_or}
use borrow.Author.Tests.{eq-eqb, ne_eqb, lt-ltb, le-ltb, lt-leb}
use Rattle.names.specs.Walk.{look_at, missing, reserved}

-- the top two bits of an octet
pub top_bits : (x : ℕ) → x < 256 → bit_and x 0xC0 ≡ x / 64 * 64
top_bits x h =
    let e : x / 64 % 4 ≡ x / 64 = mod-eq_of_lt ((div-lt_iff_lt-mul (lit< tt)).1 h) in
    and_high x 2 6 ∙ ap (λ (q : ℕ). q * 64) e

-- the low 14 bits of a number
pub offset-bits : (x : ℕ) → bit_and x 0x3FFF ≡ x % 0x4000
offset-bits x = and_mask x 14

module _ (s : List ℕ) (at : ℕ) where
  pub look_past : length s ≤ at → look_at s at ≡ missing
  unfolding look_at
  look_past h = rw (le-ltb at (length s) h)

  pub look_reserved : at < length s → (get_or s at 0 / 64 ≡ 0 → ⊥) → (get_or s at 0 / 64 ≡ 3 → ⊥) → look_at s at ≡ reserved
  unfolding look_at
  look_reserved h no_label no_pointer =
      let z : get_or s at 0 ≡ 0 → ⊥ = λ q. no_label (omega arith) in
      rw (lt-ltb at (length s) h, ne_eqb (get_or s at 0) 0 z, ne_eqb (get_or s at 0 / 64) 0 no_label, ne_eqb (get_or s at 0 / 64) 3 no_pointer)

  -- half a pointer
  pub look_half : at < length s → length s < at + 2 → get_or s at 0 / 64 ≡ 3 → look_at s at ≡ missing
  unfolding look_at
  look_half h short e =
      let z : get_or s at 0 ≡ 0 → ⊥ = λ q. omega arith in
      let y : get_or s at 0 / 64 ≡ 0 → ⊥ = λ q. omega arith in
      rw (lt-ltb at (length s) h, ne_eqb (get_or s at 0) 0 z, ne_eqb (get_or s at 0 / 64) 0 y, eq-eqb (get_or s at 0 / 64) 3 e, lt-leb (at + 2) (length s) short)
