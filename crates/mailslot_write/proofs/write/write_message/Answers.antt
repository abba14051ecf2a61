use borrow.Author.Rules.{rules}
use borrow.Author.Tests.{not-true, not-false}
use mathlib.Core.Path.{◌≡◌, refl, sym, ap, ◌∙◌}
use mathlib.Core.Bool.{true}
use Prim.Native.Nat.{ℕ, ◌≤◌}
use native.Mathlib.Omega.{arith}
use lib.ListN.{length}
use Rattle.std.proofs.Common.{Ok, Err}
use Rattle.answers.specs.declared.Refusal.TheVariants.{MailslotShape, NoRoom}
use Rattle.answers.proofs.Laws.Written.{written_promised}
use Rattle.octets.proofs.Laws.Buffer.{over_none}
use Rattle.mailslot.specs.Longest.{message_most}
use Rattle.mailslot.specs.Message.{good_message, message_octets}
use Rattle.mailslot_write.specs.Write.{WriteMessageReturns, WriteMessageLeaves}
use Rattle.mailslot.proofs.Laws.Longest.{longest_message}
use Rattle.mailslot_write.proofs.Laws.Write.{answer_shape, answer_room, answer_good}
use Rattle.mailslot_write.proofs.write.write_message.Goals as goal
use Rattle.mailslot_write.proofs.write.write_message.Goals.{Else-not-is_good_message}

-- where 41 is not given the message is good, and so it is short
module _ (c : Else-not-is_good_message) where
  is-good : good_message c.args.source.now c.args.message ≡ true
  is-good = sym c.is_good_message.ensures ∙ not-false _ c.if-not-is_good_message.false-raw

  short : length (message_octets c.args.source.now c.args.message) ≤ message_most
  short = longest_message.written c.args.source.now c.args.message is-good

pub returns-then-not-is_good_message : goal.returns-then-not-is_good_message
returns-then-not-is_good_message c =
    let a = c.args in
    let w : WriteMessageReturns a.source.now a.message a.out.now (Err MailslotShape) × WriteMessageLeaves a.source.now a.message a.out.now a.out.now =
    written_promised _ _
    (rw (answer_shape a.source.now a.message (length a.out.now) (sym c.is_good_message.ensures ∙ not-true _ c.if-not-is_good_message.true-raw)) (refl, sym (over_none a.out.now))) in
    record { write_message_returns = w.0; write_message_leaves = w.1 }

pub message_size-size-requires : goal.message_size-size-requires
message_size-size-requires c = short (goal.at.message_size-size-requires c).Else-not-is_good_message

pub returns-then-out-size : goal.returns-then-out-size
returns-then-out-size c =
    let a = c.args in
    let w : WriteMessageReturns a.source.now a.message a.out.now (Err NoRoom) × WriteMessageLeaves a.source.now a.message a.out.now a.out.now =
    written_promised _ _
    (rw (answer_room a.source.now a.message (length a.out.now) (is-good (goal.at.returns-then-out-size c).Else-not-is_good_message) (rw c.message_size-size.ensures at c.if-out-size.true)) (refl, sym (over_none a.out.now))) in
    record { write_message_returns = w.0; write_message_leaves = w.1 }

pub put_message-requires : goal.put_message-requires
put_message-requires c =
    record {
      message_len_bound = short (goal.at.put_message-requires c).Else-not-is_good_message;
      message_in_bounds = omega (arith, c.message_size-size.ensures);
    }

pub returns : goal.returns
returns c =
    let a = c.args in
    let n = c.message_size-size.ensures in
    let w : WriteMessageReturns a.source.now a.message a.out.now (Ok c.message_size-size.result) × WriteMessageLeaves a.source.now a.message a.out.now c.put_message.new.out =
    written_promised _ _
    (rw (answer_good a.source.now a.message (length a.out.now) (is-good (goal.at.returns c).Else-not-is_good_message) (rw n at c.if-out-size.false)) (λ i. Ok (n i), c.put_message.ensures)) in
    record { write_message_returns = w.0; write_message_leaves = w.1 }
