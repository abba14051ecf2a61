-- What a reply says whose texts are stretches of the table image or of the ping's source.
use Rattle.std.specs.Prelude.{Bool, true, false, List, ℕ, get_or, Option, None, Some}
use Rattle.lent.specs.declared.stretch.Stretch.{Stretch}
use Rattle.lent.specs.Internal.Stretch.{octets_at, empty_stretch}
use Rattle.reply.specs.declared.raw.RawReply.{RawReply}
use Rattle.reply.specs.Reply.{Reply}

-- the text of a slot
abbrev pub slot_text : List ℕ → List ℕ → List Stretch → ℕ → List ℕ
slot_text table request slots k = octets_at table request (get_or slots k empty_stretch)

abbrev pub text_if : Bool → List ℕ → Option (List ℕ)
text_if true text = Some text
text_if false text = None

abbrev pub reply_in : List ℕ → List ℕ → RawReply → Reply
reply_in table request r =
    let text = slot_text table request r.«slots» in
    record {
      opcode = r.«opcode»;
      flags = r.«flags»;
      guid = octets_at table request r.«guid»;
      forest = text 0;
      dns = text 1;
      host = text 2;
      netbios = text 3;
      server = text 4;
      user = text 5;
      own_site_lem = text 6;
      client_site_lem = text 7;
      ipv4 = octets_at table request r.«ipv4»;
      with_address_lem = r.with_address;
      next_site_lem = text_if r.with_next_site (text 8);
    }
