use Rattle.table_layout.specs.Field.{text_field}
use Rattle.table_layout.proofs.field.is_text_field.Goals as goal

pub returns : goal.returns
unfolding text_field
returns c =
    rw (
      c.keeps.ensures,
      c.text_in.ensures,
      c.is_zero_room.ensures,
      c.wide-length.ensures.0,
      c.octet_in.ensures,
      c.field_end.ensures,
    )
