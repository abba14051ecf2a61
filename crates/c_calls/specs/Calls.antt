-- What the exported calls give, in the definitions that the public calls promise: C's request, and its mailslot message, is the members of a struct.
use Rattle.std.specs.Prelude.{List, [], ◌∷◌, ℕ, length}
use Rattle.answers.specs.{declared.Form.Form, Try.Try, Written.written_as}
use Rattle.filter_read.specs.Value.{ping_in, judged_values}
use Rattle.filter_write.specs.Write.{filter_for}
use Rattle.mailslot.specs.Message.{message_for}
use Rattle.reader.specs.Reader.{read_in}
use Rattle.reader_forms.specs.{declared.reading.Reading.Reading, Reading.reading_as}
use Rattle.table_check.specs.declared.check.Check.{Check}
use Rattle.c_mailslot.specs.Message.{message_of}
use Rattle.c_request.specs.Request.{request_given}

abbrev pub check_members : Check → List ℕ
check_members c = c.a ∷ c.b ∷ []

abbrev pub values_judged : List ℕ → List ℕ → Try ℕ
values_judged filter request = judged_values (ping_in filter (request_given request))

abbrev pub filter_written : List ℕ → List ℕ → List ℕ → Try ℕ
filter_written source request before = written_as (filter_for source (request_given request) (length before))

abbrev pub reply_read : Form → ℕ → List ℕ → Try Reading
reply_read form version reply = reading_as reply (read_in form version reply)

abbrev pub message_written : List ℕ → List ℕ → List ℕ → Try ℕ
message_written source members before = written_as (message_for source (message_of members) (length before))
