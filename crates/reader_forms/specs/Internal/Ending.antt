-- What a reply's end is: the fields read before it, whatever they are, or a refusal.
use Rattle.std.specs.Prelude.{◌≡◌, List, ℕ, Ok}
use Rattle.answers.specs.Try.{Try, ◌>>=◌}
use Rattle.reader.specs.Reader.{Fields, read_constant, read_tokens}

abbrev pub TokensEnd : List ℕ → ℕ → Try (Unit {0}) → Type 0
TokensEnd s at r = (fields : Fields) → (r >>= λ done. Ok fields) ≡ read_tokens s at fields

abbrev pub VersionEnds : List ℕ → ℕ → ℕ → Try (Unit {0}) → Type 0
VersionEnds s at version r = (fields : Fields) → (r >>= λ done. Ok fields) ≡ (read_constant 4 version s at >>= λ e. read_tokens s e.next fields)
