-- How far octets go that a text of a message may have.
use Rattle.std.specs.Prelude.{◌≡◌, Bool, true, false, cond, ◌&&◌, ℕ, suc, ◌+◌, ◌-◌, ◌≤◌, ◌<◌, leb, ltb, length, get_or}
use mathlib.Core.List.{List, flat_map}
use Rattle.octets.specs.{Lists.all, Lists.cut, Lists.holds, NameRule.without, NameRule.user_name_most, Number.u16_at, Text.within}
use Rattle.transcode.specs.Transcode.{are_octets}
use Rattle.unicode_text.specs.{Utf8.utf8_of, Utf16.points_of16}
use Rattle.mailslot.specs.Message.{is_message_user}
use Rattle.mailslot.specs.Internal.Shape.{EndsText}

-- ---- a mailslot's name

-- an octet that it may have
abbrev pub of_name : ℕ → Bool
of_name = within 0x01 0x7F

-- the octets from `start` to `end` may be a name, and the next one may not
pub record NameRun (s : List ℕ) (start end : ℕ) : Type 0 where
  pub from : start ≤ end
  pub to : end ≤ length s
  pub octets : all of_name (cut s start (end - start)) ≡ true
  pub next : end < length s → of_name (get_or s end 0) ≡ false

-- ---- a user, character by character

-- what is left of a user is good, after so many octets of UTF-8
abbrev pub user_left : ℕ → List ℕ → Bool
user_left size l = holds (λ cs. leb (size + length (flat_map utf8_of cs)) user_name_most && without 0 cs) (points_of16 l)

-- no user goes on at an offset
abbrev pub Stops : List ℕ → ℕ → ℕ → Type 0
Stops s at size = (m : ℕ) → at + suc m ≤ length s → user_left size (cut s at (suc m)) ≡ false

-- a character of n octets, of w as UTF-8
pub record Character (s : List ℕ) (at n w : ℕ) : Type 0 where
  pub some : u16_at s at ≡ 0 → ⊥
  pub to : at + n ≤ length s
  pub inside : (size m : ℕ) → 1 ≤ m → m < n → user_left size (cut s at m) ≡ false
  pub after : (size m : ℕ) → user_left size (cut s at (n + m)) ≡ user_left (size + w) (cut s (at + n) m)

-- one of four octets of UTF-8 is a pair of units
abbrev pub octets_for : ℕ → ℕ
octets_for w = cond (ltb w 4) 2 4

-- w octets of UTF-8, or none where no character stands
pub record CharacterSize (s : List ℕ) (at w : ℕ) : Type 0 where
  pub most : w ≤ 4
  pub stands : 1 ≤ w → Character s at (octets_for w) w
  pub lacks : w ≡ 0 → (size : ℕ) → Stops s at size

-- a user from `start` to `at`, of `size` octets of UTF-8, goes on as what is left does
pub record Running (s : List ℕ) (start at size : ℕ) : Type 0 where
  pub from : start ≤ at
  pub to : at ≤ length s
  pub small : size ≤ user_name_most
  pub left : (m : ℕ) → is_message_user (cut s start (at - start + m)) ≡ user_left size (cut s at m)
  pub before : (other : ℕ) → EndsText is_message_user s start other → at ≤ other

-- the longest user from `start` on, with no zero unit before its end; and that s is of octets, as whoever read one knows
pub record TextRun (s : List ℕ) (start end : ℕ) : Type 0 where
  pub octets : are_octets s ≡ true
  pub from : start ≤ end
  pub to : end ≤ length s
  pub user : is_message_user (cut s start (end - start)) ≡ true
  pub longest : (n : ℕ) → start + n ≤ length s → is_message_user (cut s start n) ≡ true → start + n ≤ end
  pub before : (other : ℕ) → EndsText is_message_user s start other → end ≤ other
