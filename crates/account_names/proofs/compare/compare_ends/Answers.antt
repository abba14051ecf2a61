use Rattle.account_names.proofs.Laws.NameOrder.{ends-left, ends-right, ends_both}
use Rattle.account_names.proofs.compare.compare_ends.Goals as goal

pub returns-then-i-a : goal.returns-then-i-a
returns-then-i-a c =
    let e = c in
    ends-left e.args.a.now e.args.b.now e.args.i e.args.j e.requires.0 e.requires.1 c.if-i-a.true

pub returns-then-j-b : goal.returns-then-j-b
returns-then-j-b c =
    let e = c in
    ends-right e.args.a.now e.args.b.now e.args.i e.args.j e.requires.0 e.requires.1 c.if-j-b.true

pub returns : goal.returns
returns c =
    let e = c in
    ends_both e.args.a.now e.args.b.now e.args.i e.args.j e.requires.0 e.requires.1 c.if-i-a.false c.if-j-b.false
