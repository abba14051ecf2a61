-- What reading the opcode and the three texts returns.
use Rattle.std.specs.Prelude.{Ok}
use Rattle.answers.specs.Try.{Try, ◌>>=◌}
use Rattle.reader.specs.declared.field.Read.{Read}
use Rattle.reader.specs.Reader as reader
use Rattle.reader_older.specs.declared.opening.Opening.{Opening}

abbrev pub opening_of : Opening → reader.Opening
opening_of o = record { opcode = o.opcode; server = o.server; user = o.user; domain = o.domain }

abbrev pub opening_in : Try (Read Opening) → Try (Read reader.Opening)
opening_in r = do
  o ← r
  Ok (record { value = opening_of o.value; next = o.next })
