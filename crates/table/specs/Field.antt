-- Document 01, "The table image": texts of a body or a record. A text has its length octet at an offset, and its room after that.
use Rattle.std.specs.Prelude.{List, ℕ, ◌+◌, get_or}
use Rattle.octets.specs.Lists.{cut}
use Rattle.table.specs.declared.field.TextField.{TextField}

-- the text of a field
abbrev pub text_at : List ℕ → TextField → List ℕ
text_at s field = cut s (field.offset + 1) (get_or s field.offset 0)

-- the offset after the field's room
abbrev pub field_end : TextField → ℕ
field_end field = field.offset + 1 + field.room
