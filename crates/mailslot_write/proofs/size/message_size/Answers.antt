use borrow.Author.Rules.{rules}
use mathlib.Core.Path.{◌≡◌, ap, ap₂, ◌∙◌}
use Prim.Native.Nat.{◌+◌}
use native.Mathlib.Omega.{arith}
use lib.ListN.{length}
use Rattle.mailslot.specs.Message.{message_octets}
use Rattle.mailslot.specs.Internal.Shape.{sid_padding}
use Rattle.mailslot_write.proofs.Laws.Size.{message_length}
use Rattle.mailslot_write.proofs.size.message_size.Goals as goal
use Rattle.mailslot_write.proofs.size.message_size.Goals.{After-sid_padding}

-- the sum that is returned
module _ (c : After-sid_padding) where
  sum : c.head_size-head.result + c.sid_padding.result + length c.of-size.result.now + 8
      ≡ length (message_octets c.args.source.now c.args.message)
  sum =
      let a = c.args in
      let n = ap length c.of-size.ensures in
      let p = c.sid_padding.ensures.0 ∙ ap₂ sid_padding n c.head_size-head.ensures in
      omega (arith, message_length a.source.now a.message, c.head_size-head.ensures)

pub overflow_cast-size : goal.overflow_cast-size
overflow_cast-size c =
    let s = c in
    omega (arith, ap length c.of-size.ensures, message_length s.args.source.now s.args.message, s.requires)

pub overflow_add-result : goal.overflow_add-result
overflow_add-result c = omega (arith, sum (goal.at.overflow_add-result c).After-sid_padding)

pub overflow_add-result-2 : goal.overflow_add-result-2
overflow_add-result-2 c = omega (arith, sum (goal.at.overflow_add-result-2 c).After-sid_padding)

pub overflow_add-result-3 : goal.overflow_add-result-3
overflow_add-result-3 c = omega (arith, sum (goal.at.overflow_add-result-3 c).After-sid_padding)

pub returns : goal.returns
returns c = sum (goal.at.returns c).After-sid_padding
