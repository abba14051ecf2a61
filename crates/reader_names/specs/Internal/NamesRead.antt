-- What reading names one after the other returns.
use Rattle.std.specs.Prelude.{◌≡◌, List, map, ℕ, Ok, Err}
use Rattle.answers.specs.Try.{Try}
use Rattle.reader.specs.declared.field.Read.{Read}
use Rattle.reader.specs.Reader.{read_names}
use Rattle.reader.specs.Reader as reader
use Rattle.reader_names.specs.declared.NameAt.{NameAt}
use Rattle.reader_names.specs.Name.{name_as}

abbrev pub NamesOf : List ℕ → ℕ → ℕ → Try (Read (List NameAt)) → Type 0
NamesOf s at count (Ok f) =
    (given : List reader.NameRead) × (read_names count s at ≡ Ok (record { value = given; next = f.next })) × (f.value ≡ map name_as given)
NamesOf s at count (Err r) = read_names count s at ≡ Err r
