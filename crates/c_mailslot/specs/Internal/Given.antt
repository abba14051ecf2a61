-- What a caller's members give: the message that they make, or that a number of it is past its field, whatever the texts are.
use Rattle.std.specs.Prelude.{◌≡◌, false, List, ℕ, Option, None, Some}
use Rattle.mailslot.specs.Message.{good_message}
use Rattle.mailslot.specs.declared.message.Message.{Message}
use Rattle.c_mailslot.specs.Message.{message_of}

abbrev pub GivenBy : List ℕ → Option Message → Type 0
GivenBy members (Some m) = m ≡ message_of members
GivenBy members None = (source : List ℕ) → good_message source (message_of members) ≡ false
