use Rattle.table_layout.specs.Layout.{account_layout}
use Rattle.table_layout.proofs.layout.account_layout.Goals as goal

pub returns : goal.returns
unfolding account_layout
returns c =
    rw (
      c.context-context.ensures,
      c.is_zero_room.ensures,
      c.is_last_text.ensures,
    )
