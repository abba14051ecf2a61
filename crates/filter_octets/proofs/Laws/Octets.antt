-- Laws of written lengths and elements.
use mathlib.Core.Path.{◌≡◌}
use mathlib.Core.List.{[], ◌∷◌}
use Prim.Native.Nat.{ℕ, ◌/◌, ◌%◌, ◌≤◌, ◌<◌}
use native.Mathlib.Omega.{arith}
use borrow.Author.Tests.{lt-ltb, le-ltb}
use Rattle.octets.specs.Number.{little_octets, big_octets}
use Rattle.filter_octets.specs.Octets.{length_octets}

-- the shortest length: one octet, or 81h and one, or 82h and two
pub octets-one : (n : ℕ) → n < 0x80 → length_octets n ≡ n ∷ []
unfolding length_octets big_octets little_octets
octets-one n h =
    let e : n % 256 ≡ n = omega arith in
    rw (length_octets, lt-ltb n 0x80 h, e)

pub octets-two : (n : ℕ) → 0x80 ≤ n → n < 0x100 → length_octets n ≡ 0x81 ∷ n ∷ []
unfolding length_octets big_octets little_octets
octets-two n h k =
    let e : n % 256 ≡ n = omega arith in
    rw (length_octets, le-ltb n 0x80 h, lt-ltb n 0x100 k, e)

pub octets_three : (n : ℕ) → 0x100 ≤ n → length_octets n ≡ 0x82 ∷ (n / 256 % 256) ∷ (n % 256) ∷ []
unfolding length_octets big_octets little_octets
octets_three n h =
    let k : 0x80 ≤ n = omega arith in
    rw (length_octets, le-ltb n 0x80 k, le-ltb n 0x100 h)
