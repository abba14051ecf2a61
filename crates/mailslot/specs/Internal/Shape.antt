-- The shape of a message by its offsets: where its texts end, and where its SID starts.
use Rattle.std.specs.Prelude.{◌≡◌, Bool, true, cond, ◌&&◌, ◌||◌, List, ℕ, ◌+◌, ◌*◌, ◌-◌, ◌≤◌, ◌<◌, eqb, length, get_or}
use Rattle.answers.specs.Wire.{logon_sam_logon_request, LmNtToken, Lm20Token}
use Rattle.octets.specs.{Lists.cut, Number.u16_at, Number.u32_at, Text.within}
use Rattle.mailslot.specs.{declared.message.Message.Message, Message.is_computer_name, Message.is_message_user, Message.is_mailslot_name, Message.padding}

-- a text that its zero unit ends, as a test of it asks
pub record EndsText (good : List ℕ → Bool) (s : List ℕ) (start end : ℕ) : Type 0 where
  pub from : start ≤ end
  pub to : end + 2 ≤ length s
  pub zero : u16_at s end ≡ 0
  pub text : good (cut s start (end - start)) ≡ true

-- the name that its zero octet ends
pub record EndsName (s : List ℕ) (start end : ℕ) : Type 0 where
  pub from : start ≤ end
  pub to : end + 1 ≤ length s
  pub zero : get_or s end 0 ≡ 0
  pub name : is_mailslot_name (cut s start (end - start)) ≡ true

-- the one offset where it ends; where there is none, the message's end
pub record OneEnd (Ends : ℕ → Type 0) (length end : ℕ) : Type 0 where
  pub to : end ≤ length
  pub found : end < length → Ends end
  pub only : (other : ℕ) → Ends other → other ≡ end

-- the opcode and the three texts, behind the repeat count
pub record Texts (s : List ℕ) (computer user mailslot : ℕ) : Type 0 where
  pub opcode : u16_at s 0 ≡ logon_sam_logon_request
  pub computer_ends : EndsText is_computer_name s 4 computer
  pub user_ends : EndsText is_message_user s (computer + 2) user
  pub mailslot_ends : EndsName s (user + 2) mailslot

-- padding only before a SID that is there
abbrev pub sid_padding : ℕ → ℕ → ℕ
sid_padding size at = cond (eqb size 0) 0 (padding at)

abbrev pub is_sid_size : ℕ → ℕ → Bool
is_sid_size size count = eqb size 0 || (within 8 68 size && eqb size (8 + 4 * count))

-- what stands from the bits on: the size of the SID four octets later, the SID behind its padding, the version and the tokens, which end the message
pub record Numbers (s : List ℕ) (bits sid : ℕ) : Type 0 where
  pub sid_starts : sid ≡ bits + 8 + sid_padding (u32_at s (bits + 4)) (bits + 8)
  pub sized : is_sid_size (u32_at s (bits + 4)) (get_or s (sid + 1) 0) ≡ true
  pub ends : sid + u32_at s (bits + 4) + 8 ≡ length s
  pub first : u16_at s (sid + u32_at s (bits + 4) + 4) ≡ LmNtToken
  pub second : u16_at s (sid + u32_at s (bits + 4) + 4 + 2) ≡ Lm20Token

-- what a message of this shape says
abbrev pub message_at : List ℕ → ℕ → ℕ → ℕ → ℕ → Message
message_at s computer user mailslot sid =
    let size = u32_at s (mailslot + 1 + 4) in
    record {
      repeat = u16_at s 2;
      computer = record { start = 4; len = computer - 4 };
      user = record { start = computer + 2; len = user - (computer + 2) };
      mailslot = record { start = user + 2; len = mailslot - (user + 2) };
      bits = u32_at s (mailslot + 1);
      sid = record { start = sid; len = size };
      version = u32_at s (sid + size);
    }
