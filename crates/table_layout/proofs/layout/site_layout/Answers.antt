use Rattle.table_layout.specs.Layout.{site_layout}
use Rattle.table_layout.proofs.layout.site_layout.Goals as goal

pub returns : goal.returns
unfolding site_layout
returns c =
    rw (
      c.number-number.ensures,
      c.is_text_field.ensures,
      c.is_zero_room.ensures,
    )
