-- Document 02, #105: the ping that a mailslot message is, 41 where it is none. Document 01 holds from 15 on.
use Rattle.std.specs.Prelude.{List, [], ◌∷◌, ℕ, Ok, Option, None, Some, unwrap_or}
use Rattle.answers.specs.Try.{Try, ◌>>=◌}
use Rattle.filter_read.specs.Value.{Ping}
use Rattle.mailslot.specs.{declared.message.Message.Message, Message.message_in}
use Rattle.octets.specs.Stretch.{stretch_of}
use Rattle.unicode_text.specs.Utf16.{utf8_from16}

-- unlike in a filter, an empty user is no user; and a SID of size 0 is none
abbrev pub unless_empty : List ℕ → Option (List ℕ)
unless_empty [] = None
unless_empty (x ∷ xs) = Some (x ∷ xs)

-- what a message asks: it has no GUID and no DNS name, and the user's own octets are its UTF-8 ones
abbrev pub message_ping : List ℕ → Message → Ping
message_ping s m =
    record {
      dns_domain_lem = None;
      user = unless_empty (unwrap_or (utf8_from16 (stretch_of s m.user)) []);
      aac = m.bits;
      domain_sid_lem = unless_empty (stretch_of s m.sid);
      domain_guid_lem = None;
      version = m.version;
    }

unfoldable pub mailslot_ping : List ℕ → Try Ping
mailslot_ping s = do
  m ← message_in s
  Ok (message_ping s m)
