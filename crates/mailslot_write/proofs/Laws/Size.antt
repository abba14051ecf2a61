-- How many octets a message has, part by part.
use mathlib.Core.Path.{◌≡◌, refl, ap, ◌∙◌}
use mathlib.Core.List.{List, [], ◌∷◌, ◌++◌}
use Prim.Native.Nat.{ℕ, ◌+◌}
use native.Mathlib.Omega.{arith}
use lib.ListN.{length, replicate, length-append, length-replicate}
use borrow.Author.Tests.{ne_eqb}
use Rattle.octets.proofs.Laws.Number.{length-little}
use Rattle.octets.specs.Stretch.{stretch_of}
use Rattle.reply.proofs.Laws.Reply.{ending-length}
use Rattle.mailslot.specs.declared.message.Message.{Message}
use Rattle.mailslot.specs.Message.{message_head, padded_sid, message_octets}
use Rattle.mailslot.specs.Internal.Shape.{sid_padding}

-- the padding is known by the SID's size
pub padded-sid : (at : ℕ) (sid : List ℕ) → padded_sid at sid ≡ replicate (sid_padding (length sid) at) 0 ++ sid
padded-sid at [] = refl
padded-sid at (x ∷ xs) = rw (ne_eqb (length (x ∷ xs)) 0 (λ z. omega arith))

pub padded-length : (at : ℕ) (sid : List ℕ) → length (padded_sid at sid) ≡ sid_padding (length sid) at + length sid
padded-length at sid = ap length (padded-sid at sid) ∙ simp (length-append, length-replicate)

module _ (source : List ℕ) (m : Message) where
  pub head_length : length (message_head source m) ≡ 17 + length (stretch_of source m.computer) + length (stretch_of source m.user) + length (stretch_of source m.mailslot)
  unfolding message_head
  head_length = simp (length-append, length-little) (omega arith)

  pub message_parts : length (message_octets source m) ≡ length (message_head source m) + length (padded_sid (length (message_head source m)) (stretch_of source m.sid)) + 8
  unfolding message_octets
  message_parts = simp (length-append, ending-length)

  pub message_length : length (message_octets source m)
      ≡ length (message_head source m) + sid_padding (length (stretch_of source m.sid)) (length (message_head source m)) + length (stretch_of source m.sid) + 8
  message_length = omega (arith, message_parts, padded-length (length (message_head source m)) (stretch_of source m.sid))
