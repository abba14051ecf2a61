use Rattle.table_layout.proofs.Laws.Rule.{netbios-field}
use Rattle.table_layout.specs.Layout.{context_layout}
use Rattle.table_layout.proofs.layout.context_layout.Goals as goal

pub returns : goal.returns
unfolding context_layout
returns c =
    rw (
      c.number-number.ensures,
      c.flags_layout.ensures,
      c.all_zero.ensures,
      c.guid.ensures,
      c.sid_layout.ensures,
      c.is_text_field.ensures,
      c.netbios_rule.ensures,
      netbios-field c.is_application-application.result,
      c.is_application-application.ensures,
      c.is_last_text.ensures,
    )
