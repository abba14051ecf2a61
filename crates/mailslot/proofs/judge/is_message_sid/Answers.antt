use mathlib.Core.Path.{sym, ◌∙◌}
use Prim.Native.Nat.{◌<◌}
use lib.ListN.{length}
use Rattle.mailslot.specs.Message.{is_message_sid}
use Rattle.mailslot.proofs.Laws.Sid.{sid_long}
use borrow.Author.Rules.{rules}
use Rattle.mailslot.proofs.judge.is_message_sid.Goals as goal

pub returns-then-s : goal.returns-then-s
returns-then-s c = let h : 68 < length c.args.s.now = c.if-s.true in sym (sid_long c.args.s.now h)

pub returns : goal.returns
unfolding is_message_sid
returns c = c.is_sid_size.ensures ∙ rw c.octet_at.ensures
