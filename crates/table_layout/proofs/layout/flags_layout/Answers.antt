use Rattle.table_layout.specs.Layout.{flags_layout}
use Rattle.table_layout.proofs.layout.flags_layout.Goals as goal

pub returns : goal.returns
unfolding flags_layout
returns c =
    rw (
      c.application_octet-application.ensures,
      c.has_sid_octet-has_sid.ensures,
    )
