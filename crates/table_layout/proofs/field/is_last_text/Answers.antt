use Rattle.table_layout.specs.Field.{last_text}
use Rattle.table_layout.proofs.field.is_last_text.Goals as goal

pub returns : goal.returns
unfolding last_text
returns c =
    rw (
      c.is_text_field.ensures,
      c.is_zero_room.ensures,
      c.field_end.ensures,
    )
