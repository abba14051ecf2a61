-- The records of a body fill it.
use mathlib.Core.Path.{◌≡◌, refl}
use Prim.Native.Nat.{ℕ, ◌+◌, ◌*◌, ◌≤◌, ◌<◌}
use native.Mathlib.Omega.{arith}
use Rattle.table.specs.declared.record.RecordKind.{RecordKind}
use Rattle.table.specs.declared.record.RecordKind.TheVariants.{Context, Account, Site, Subnet}
use Rattle.table.specs.Block.{body_size}
use Rattle.table.specs.Format.{format_of}

pub format_fills : (kind : RecordKind) → (format_of kind).count * (format_of kind).width ≡ body_size
format_fills Context = refl
format_fills Account = refl
format_fills Site = refl
format_fills Subnet = refl

pub record_fits : (kind : RecordKind) (i : ℕ) → i < (format_of kind).count → (format_of kind).width * i + (format_of kind).width ≤ body_size
record_fits Context i h = omega arith
record_fits Account i h = omega arith
record_fits Site i h = omega arith
record_fits Subnet i h = omega arith
