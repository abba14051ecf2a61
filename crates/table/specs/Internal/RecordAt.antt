-- A record by its offset in the image.
use Rattle.std.specs.Prelude.{List, ℕ}
use Rattle.octets.specs.Lists.{cut}
use Rattle.table.specs.declared.record.RecordKind.{RecordKind}
use Rattle.table.specs.Format.{format_of}

abbrev pub record_at : List ℕ → RecordKind → ℕ → List ℕ
record_at image kind offset = cut image offset (format_of kind).width
