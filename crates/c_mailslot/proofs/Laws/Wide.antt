-- A number past its field's width makes no good message, whatever its texts are.
use mathlib.Core.Path.{◌≡◌}
use mathlib.Core.Bool.{false, and-false}
use mathlib.Core.List.{List}
use Prim.Native.Nat.{ℕ, ◌≤◌}
use lib.ListN.{get_or}
use borrow.Author.Tests.{le-ltb}
use Rattle.mailslot.specs.Message.{good_message}
use Rattle.c_mailslot.specs.Message.{message_of}

pub wide_repeat : (members source : List ℕ) → 0x10000 ≤ get_or members 0 0 → good_message source (message_of members) ≡ false
unfolding good_message
wide_repeat members source h = rw (le-ltb (get_or members 0 0) 0x10000 h)

pub wide_bits : (members source : List ℕ) → 0x100000000 ≤ get_or members 1 0 → good_message source (message_of members) ≡ false
unfolding good_message
wide_bits members source h = simp (le-ltb (get_or members 1 0) 0x100000000 h, and-false)

pub wide_version : (members source : List ℕ) → 0x100000000 ≤ get_or members 2 0 → good_message source (message_of members) ≡ false
unfolding good_message
wide_version members source h = simp (le-ltb (get_or members 2 0) 0x100000000 h, and-false)
