use mathlib.Core.Path.{ap, ◌∙◌}
use native.Mathlib.Omega.{arith}
use Rattle.mailslot.specs.Message.{is_computer_name, is_message_user, is_mailslot_name, is_message_sid}
use Rattle.mailslot.proofs.Laws.Shape.{good_by_parts}
use borrow.Author.Rules.{rules}
use Rattle.mailslot.proofs.judge.is_good_message.Goals as goal

pub returns : goal.returns
returns c =
    let a = c.args in
    rw (
      c.is_computer_name.ensures ∙ ap is_computer_name c.of.ensures,
      c.is_message_user.ensures ∙ ap is_message_user c.of-2.ensures,
      c.is_mailslot_name.ensures ∙ ap is_mailslot_name c.of-3.ensures,
      c.is_message_sid.ensures ∙ ap is_message_sid c.of-4.ensures,
    ) (good_by_parts a.source.now a.message (omega arith) (omega arith) (omega arith))
