-- What reading name 8 and the version returns.
use Rattle.std.specs.Prelude.{◌≡◌, Bool, List, ℕ, Ok, Err, option_map}
use Rattle.answers.specs.Try.{Try}
use Rattle.reader.specs.declared.field.Read.{Read}
use Rattle.reader.specs.Reader as reader
use Rattle.reader.specs.Reader.{read_last}
use Rattle.reader_names.specs.Name.{name_as}
use Rattle.reader_last.specs.declared.last.Last.{Last}

abbrev pub last_as : reader.Last → Last
last_as l = record { next_site = option_map name_as l.next_site_lem; version = l.version }

abbrev pub LastOf : List ℕ → Bool → ℕ → ℕ → Try (Read Last) → Type 0
LastOf s present v at (Ok l) = (given : reader.Last) × (read_last present v s at ≡ Ok (record { value = given; next = l.next })) × (l.value ≡ last_as given)
LastOf s present v at (Err r) = read_last present v s at ≡ Err r
