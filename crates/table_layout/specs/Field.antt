-- Document 01, "The table image": room that must be zero, and a text by its rule, with its room.
use Rattle.std.specs.Prelude.{Bool, ◌&&◌, List, ℕ, ◌+◌, ◌-◌, leb, get_or}
use Rattle.octets.specs.{Lists.cut, Text.all_zero}
use Rattle.table.specs.{declared.field.TextField.TextField, Field.text_at, Field.field_end}

-- the octets from one offset up to another are zero
unfoldable pub zeros : List ℕ → ℕ → ℕ → Bool
zeros s from end = all_zero (cut s from (end - from))

-- a text is no longer than its room and keeps to a rule, and the room that it doesn't use is zero
unfoldable pub text_field : (List ℕ → Bool) → List ℕ → TextField → Bool
text_field rule s field =
    leb (get_or s field.offset 0) field.room
    && rule (text_at s field)
    && zeros s (field.offset + 1 + get_or s field.offset 0) (field_end field)

-- the last text of a body or a record: zeros stand after it, up to the end
unfoldable pub last_text : (List ℕ → Bool) → List ℕ → TextField → ℕ → Bool
last_text rule s field end = text_field rule s field && zeros s (field_end field) end
