-- What reading a name returns: the name as the reader defines it, and its text's length.
use Rattle.std.specs.Prelude.{◌≡◌, List, ℕ, Ok, Err}
use Rattle.answers.specs.Try.{Try}
use Rattle.names.specs.Walk.{WalkedName}
use Rattle.reader.specs.declared.field.Read.{Read}
use Rattle.reader.specs.Name.{read_name}
use Rattle.reader.specs.Reader.{joined_name}
use Rattle.reader_names.specs.declared.NameAt.{NameAt}
use Rattle.reader_names.specs.Name.{name_as}

abbrev pub NameOf : List ℕ → ℕ → Try (Read NameAt) → Type 0
NameOf s at (Ok f) = (n : WalkedName) × (read_name s at ≡ Ok (record { value = n; next = f.next })) × (f.value ≡ name_as (joined_name at n))
NameOf s at (Err r) = read_name s at ≡ Err r
