use native.Mathlib.Omega.{arith}
use Rattle.octets.proofs.Laws.Number.{no_high-bits}
use Rattle.table_layout.specs.Layout.{server_layout}
use Rattle.table_layout.proofs.layout.server_layout.Goals as goal

pub returns : goal.returns
unfolding server_layout
returns c =
    rw (
      no_high-bits c.roles.result 20 12 (omega arith),
      no_high-bits c.state.result 28 4 (omega arith),
      c.roles.ensures,
      c.state.ensures,
      c.own_site-own_site.ensures,
      c.default_context-default_context.ensures,
      c.is_text_field.ensures,
      c.is_last_text.ensures,
    )
