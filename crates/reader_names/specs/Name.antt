-- A name that was read, as the calls return it.
use Rattle.std.specs.Prelude.{length}
use Rattle.reader.specs.Reader.{NameRead}
use Rattle.reader_names.specs.declared.NameAt.{NameAt}

-- its first offset, the length of its labels joined by dots, and its pointer count
abbrev pub name_as : NameRead → NameAt
name_as n = record { start = n.start; len = length n.text; pointers = n.pointers }
