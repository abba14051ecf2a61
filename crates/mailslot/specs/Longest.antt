-- Document 02, #105: by its limits a message has at most 316 octets, one that reads and one that is written; so a longer one is 41.
use Rattle.std.specs.Prelude.{◌≡◌, true, List, ℕ, ◌≤◌, length, Ok}
use Rattle.mailslot.specs.{declared.message.Message.Message, Message.good_message, Message.message_in, Message.message_octets}

abbrev pub message_most : ℕ
message_most = 316

pub record LongestMessage : Type 0 where
  pub read : (octets : List ℕ) (m : Message) → message_in octets ≡ Ok m → length octets ≤ message_most
  pub written : (source : List ℕ) (m : Message) → good_message source m ≡ true → length (message_octets source m) ≤ message_most
