-- The messages are read by computation.
use mathlib.Core.Path.{refl}
use mathlib.Core.List.{flat_map}
use Rattle.octets.specs.{Lists.all, Number.little, Number.little_octets, Text.same}
use Rattle.reader.specs.Field.{read_octets, read_stretch, read_fixed}
use Rattle.reader.specs.Reader.{read_number, read_tokens}
use Rattle.reader.specs.Text.{unit_of, read_text_from, read_text}
use Rattle.unicode_text.specs.Utf8.{lead, follow, points_from, is_utf8, utf8_of}
use Rattle.unicode_text.specs.Utf16.{lead16, follow16, points_from16, utf8_from16}
use Rattle.unicode_text.specs.UserName.{is_user_name}
use Rattle.mailslot.specs.Message.{is_computer_name, is_message_user, is_mailslot_name, is_message_sid, good_message, padding, before_zero, read_zero_ended, read_fields, message_in}
use Rattle.samples.specs.Messages.{MessagesRead}

pub messages-read : MessagesRead
unfolding flat_map all little little_octets same read_octets read_stretch read_fixed read_number read_tokens unit_of read_text_from read_text lead follow points_from is_utf8 utf8_of lead16 follow16 points_from16 utf8_from16 is_user_name is_computer_name is_message_user is_mailslot_name is_message_sid good_message padding before_zero read_zero_ended read_fields message_in
messages-read = refl
