-- A message that breaks a limit is not written: 41, and the buffer as it was.
use Rattle.std.proofs.Common.{Ok, Err}
use mathlib.Core.Path.{◌≡◌, sym, ap, ◌∙◌}
use mathlib.Core.Bool.{Bool, false, not}
use mathlib.Core.List.{List}
use Prim.Native.Nat.{ℕ}
use lib.Dec.{ltb}
use lib.ListN.{length}
use Rattle.answers.specs.declared.Refusal.TheVariants.{MailslotShape, NoRoom}
use Rattle.answers.specs.Try.{Try, refused_if}
use Rattle.answers.specs.Written.{written_as, written_octets}
use Rattle.mailslot.specs.{declared.message.Message.Message, Message.good_message, Message.message_octets, Message.message_for}
use Rattle.octets.specs.Buffer.{over}
use Rattle.octets.proofs.Laws.Buffer.{over_none}

bad-refused : (source : List ℕ) (m : Message) (room : ℕ) → good_message source m ≡ false → message_for source m room ≡ Err MailslotShape
unfolding message_for
bad-refused source m room e =
    ap (λ (b : Bool). refused_if (not b) MailslotShape (refused_if (ltb room (length (message_octets source m))) NoRoom (Ok (message_octets source m)))) e

pub bad_unwritten : (source : List ℕ) (m : Message) (before : List ℕ) → good_message source m ≡ false
    → (Err MailslotShape ≡ written_as (message_for source m (length before))) × (before ≡ over (written_octets (message_for source m (length before))) before)
bad_unwritten source m before e =
    let r = sym (bad-refused source m (length before) e) in
    (ap written_as r, sym (over_none before) ∙ ap (λ (o : Try (List ℕ)). over (written_octets o) before) r)
