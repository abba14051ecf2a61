use Prim.Native.Nat.{◌≤◌}
use native.Mathlib.Omega.{arith}
use borrow.Author.Tests.{lt-ltb, le-ltb}
use Rattle.mailslot.proofs.text.octets_for.Goals as goal

pub returns-then-size-lt4 : goal.returns-then-size-lt4
returns-then-size-lt4 c = (rw (lt-ltb c.args.size 4 c.if-size-lt4.true), omega arith, omega arith)

pub returns : goal.returns
returns c = let h : 4 ≤ c.args.size = omega arith in (rw (le-ltb c.args.size 4 h), omega arith, omega arith)
