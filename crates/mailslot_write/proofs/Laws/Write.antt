-- The writer's answers, by its judgements in their order.
use Rattle.std.proofs.Common.{Ok, Err}
use mathlib.Core.Path.{◌≡◌}
use mathlib.Core.Bool.{true, false}
use mathlib.Core.List.{List}
use Prim.Native.Nat.{ℕ, ◌≤◌, ◌<◌}
use borrow.Author.Tests.{lt-ltb, le-ltb}
use lib.ListN.{length}
use Rattle.answers.specs.declared.Refusal.TheVariants.{MailslotShape, NoRoom}
use Rattle.mailslot.specs.declared.message.Message.{Message}
use Rattle.mailslot.specs.Message.{good_message, message_octets, message_for}

module _ (source : List ℕ) (m : Message) (room : ℕ) where
  pub answer_shape : good_message source m ≡ false → message_for source m room ≡ Err MailslotShape
  unfolding message_for
  answer_shape e = rw (message_for, e)

  module _ (e : good_message source m ≡ true) where
    pub answer_room : room < length (message_octets source m) → message_for source m room ≡ Err NoRoom
    unfolding message_for
    answer_room h = rw (message_for, e, lt-ltb room _ h)

    pub answer_good : length (message_octets source m) ≤ room → message_for source m room ≡ Ok (message_octets source m)
    unfolding message_for
    answer_good h = rw (message_for, e, le-ltb room _ h)
