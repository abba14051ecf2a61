-- Without DnsDomain only the flags around the application flag are left, and none of them has its bit.
use Rattle.std.proofs.Common.{None}
use mathlib.Core.Path.{◌≡◌, ap}
use mathlib.Core.Bool.{Bool, false}
use Prim.Native.Nat.{ℕ, ◌+◌, ◌*◌, ◌/◌, ◌%◌, ◌<◌}
use native.Mathlib.Omega.{arith}
use lib.Bits.{bit_and, and_high}
use Rattle.answers.specs.Wire.{ds_ndnc_flag}
use Rattle.filter_read.specs.Value.{Ping}
use Rattle.octets.specs.Number.{has}
use Rattle.table.specs.Table.{Table}
use Rattle.choose.specs.ApplicationFlag.{ApplicationFlag}
use Rattle.choose.specs.Choose.{names_application, flag, ex_flags}
use Rattle.choose.proofs.Laws.Choose.{flags_around}

bit_clear : (x low high : ℕ) → low < 0x400 → x ≡ low + high * 0x800 → has x ds_ndnc_flag ≡ false
unfolding has
bit_clear x low high h e =
    let z : x / 0x400 % 2 ≡ 0 = omega arith in
    let b : bit_and x ds_ndnc_flag ≡ x / 0x400 % 2 * 0x400 = and_high x 1 10 in
    rw (b, z)

none_named : (t : Table) (p : Ping) → p.dns_domain_lem ≡ None → names_application t p ≡ false
unfolding names_application
none_named t p e = rw e

pub application-flag : ApplicationFlag
application-flag t p site e =
    let f = flags_around t p site in
    let unset : flag (names_application t p) ds_ndnc_flag ≡ 0 = ap (λ (b : Bool). flag b ds_ndnc_flag) (none_named t p e) in
    bit_clear (ex_flags t p site) f.low f.high f.low_below (omega (arith, f.sum, unset))
