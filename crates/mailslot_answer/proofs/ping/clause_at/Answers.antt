use Rattle.mailslot_answer.proofs.Laws.Ping.{absent-clause, present_clause}
use Rattle.mailslot_answer.proofs.ping.clause_at.Goals as goal

pub returns-then-len-eq0 : goal.returns-then-len-eq0
returns-then-len-eq0 c = absent-clause c.args.start c.args.len c.if-len-eq0.true

pub returns : goal.returns
returns c = present_clause c.args.start c.args.len c.if-len-eq0.false
