use Rattle.table_layout.specs.Layout.{subnet_layout}
use Rattle.table_layout.proofs.layout.subnet_layout.Goals as goal

pub returns : goal.returns
unfolding subnet_layout
returns c =
    rw (
      c.is_prefix_only.ensures,
      c.address_number.ensures,
      c.address.ensures,
      c.prefix-prefix.ensures,
      c.in_use_octet.ensures,
      c.is_zero_room.ensures,
    )
