-- A UTF-16LE text in UTF-8, and what the code tells of its size.
use Rattle.std.specs.Prelude.{◌≡◌, List, [], ℕ, ◌*◌, ◌≤◌, length, Option, None, Some, option_map, unwrap_or}
use Rattle.unicode_text.specs.Utf16.{utf8_from16}

-- no octets where it is no text
abbrev pub utf8_text : List ℕ → List ℕ
utf8_text s = unwrap_or (utf8_from16 s) []

-- how many octets a text takes, or that it is none
abbrev pub SizeTold : List ℕ → Option ℕ → Type 0
SizeTold s None = utf8_from16 s ≡ None
SizeTold s (Some n) = (option_map length (utf8_from16 s) ≡ Some n) × (2 * n ≤ 3 * length s)
