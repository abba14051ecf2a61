-- A text is what its members say; of a SID of no octets nothing is left to say.
use mathlib.Core.Path.{◌≡◌, refl, sym, ap}
use mathlib.Core.Bool.{Bool, true, false}
use mathlib.Core.List.{List, [], ◌∷◌}
use Prim.Native.Nat.{ℕ}
use lib.Dec.{eqb}
use lib.ListN.{get_or}
use borrow.Author.Tests.{eqb-true}
use Rattle.c_mailslot.specs.Message.{stretch_at, sid_unless, MessageHandedOn}
use Rattle.octets.specs.{declared.part.Stretch.Stretch, Stretch.stretch_of}

pub sid_of_three : (b : Bool) (t : Stretch) → get_or (sid_unless b t) 0 0 ∷ get_or (sid_unless b t) 1 0 ∷ get_or (sid_unless b t) 2 0 ∷ [] ≡ sid_unless b t
sid_of_three true t = refl
sid_of_three false t = refl

sid_again : (source : List ℕ) (t : Stretch) (b : Bool) → eqb t.len 0 ≡ b → stretch_of source (stretch_at (sid_unless b t) 0) ≡ stretch_of source t
sid_again source t true e = ap (λ n. stretch_of source (record { start = t.start; len = n })) (sym (eqb-true t.len 0 e))
sid_again source t false e = refl

pub message_handed_on : MessageHandedOn
message_handed_on source m =
    record {
      repeat = refl;
      computer = refl;
      user = refl;
      mailslot = refl;
      bits = refl;
      sid = sid_again source m.sid (eqb m.sid.len 0) refl;
      version = refl;
    }
