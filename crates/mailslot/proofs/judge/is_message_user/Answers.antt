use Rattle.mailslot.proofs.Laws.Run.{user-whole}
use borrow.Author.Rules.{rules}
use Rattle.mailslot.proofs.judge.is_message_user.Goals as goal

pub returns : goal.returns
returns c = user-whole c.args.s.now c.text_run.result c.text_run.ensures
