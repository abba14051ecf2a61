-- Document 01, "Reading a reply": "a name comes as its labels joined by dots". The octets of the name that starts at an offset, as the call returns them.
use Rattle.std.specs.Prelude.{◌≡◌, List, ℕ, length, take, replicate, Ok}
use Rattle.std.specs.Result.{result_unwrap_or}
use Rattle.answers.specs.Try.{Try, ◌>>=◌, number_of}
use Rattle.answers.specs.Written.{written_as, written_octets}
use Rattle.octets.specs.{Buffer.over, Label.joined}
use Rattle.reader.specs.Name.{text_most, read_name}
use Rattle.reader_text.specs.declared.NameText.{NameText}

-- the labels joined by dots of the name that the reader accepts at an offset, or why it accepts none
unfoldable pub name_text_lem : List ℕ → ℕ → Try (List ℕ)
name_text_lem s at = do
  f ← read_name s at
  Ok (joined f.value.labels)

abbrev pub text_octets : Try (List ℕ) → List ℕ
text_octets = written_octets

-- as the call returns it: its length, and the octets at the front of room for the longest name, zeros after them
abbrev pub name_text_as : Try (List ℕ) → NameText
name_text_as t = record { len = written_as t; octets = over (text_octets t) (replicate text_most 0) }

-- the octets that it gives: none with a refusal
abbrev pub text_given : NameText → List ℕ
text_given t = take (result_unwrap_or t.len 0) t.octets

-- what `name_text` promises
pub record NameTextPromise (reply : List ℕ) (start : ℕ) (r : NameText) : Type 0 where
  pub same : r ≡ name_text_as (name_text_lem reply start)
  pub numbered : number_of r.len ≡ number_of (name_text_lem reply start)
  pub sized : result_unwrap_or r.len 0 ≡ length (text_octets (name_text_lem reply start))
  pub given : text_given r ≡ text_octets (name_text_lem reply start)
