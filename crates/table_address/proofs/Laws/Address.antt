-- Laws of prefixes.
use mathlib.Core.Path.{◌≡◌, ap, ◌∙◌}
use Prim.Native.Nat.{ℕ, ◌-◌, ◌*◌, ◌%◌, ◌^◌, ◌≤◌, ◌<◌}
use native.Mathlib.Nat.{one-mul, mod-eq_of_lt}
use native.Mathlib.Omega.{arith}
use lib.Pow.{pow_pos, pow-lt}
use Rattle.table.specs.Address.{share_size}

-- a share is never empty
pub share_some : (prefix : ℕ) → 0 < share_size prefix
share_some prefix = pow_pos (32 - prefix)

pub share_whole : (prefix : ℕ) → 32 ≤ prefix → 1 ≡ share_size prefix
share_whole prefix h = let e : 32 - prefix ≡ 0 = omega arith in rw e

-- in 64 bits nothing is lost
pub share_shift : (prefix : ℕ) → (1 * 2 ^ (32 - prefix)) % 2 ^ 64 ≡ share_size prefix
share_shift prefix = ap (λ (n : ℕ). n % 2 ^ 64) (one-mul (2 ^ (32 - prefix))) ∙ mod-eq_of_lt (pow-lt {i = 32 - prefix} {j = 64} (omega arith))
