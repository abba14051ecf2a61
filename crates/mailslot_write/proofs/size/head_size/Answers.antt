use borrow.Author.Rules.{rules}
use mathlib.Core.Path.{ap}
use Prim.Native.Nat.{ℕ, ◌+◌, ◌≤◌}
use native.Mathlib.Omega.{arith}
use lib.ListN.{length}
use Rattle.octets.specs.Stretch.{stretch_of}
use Rattle.mailslot_write.proofs.Laws.Size.{head_length, message_length}
use Rattle.mailslot_write.proofs.size.head_size.Goals as goal
use Rattle.mailslot_write.proofs.size.head_size.Goals.{Start}

-- what a message of so few octets has before its SID
module _ (c : Start) where
  abbrev texts : ℕ
  texts =
      length (stretch_of c.args.source.now c.args.message.computer)
      + length (stretch_of c.args.source.now c.args.message.user)
      + length (stretch_of c.args.source.now c.args.message.mailslot)

  few : texts ≤ 316
  few = omega (arith, head_length c.args.source.now c.args.message, message_length c.args.source.now c.args.message, c.requires)

pub overflow_add-result-2 : goal.overflow_add-result-2
overflow_add-result-2 c = omega (arith, few (goal.at.overflow_add-result-2 c).Start, ap length c.of.ensures, ap length c.of-2.ensures)

pub overflow_add-result-3 : goal.overflow_add-result-3
overflow_add-result-3 c =
    omega (
      arith,
      few (goal.at.overflow_add-result-3 c).Start,
      ap length c.of.ensures,
      ap length c.of-2.ensures,
      ap length c.of-3.ensures,
    )

pub returns : goal.returns
returns c =
    let a = c.args in
    omega (
      arith,
      head_length a.source.now a.message,
      ap length c.of.ensures,
      ap length c.of-2.ensures,
      ap length c.of-3.ensures,
    )
