use Prim.Native.Nat.{◌≤◌, ◌<◌}
use native.Mathlib.Omega.{arith}
use lib.ListN.{length}
use borrow.Author.Rules.{rules}
use borrow.Author.Tests.{le-leb, lt-leb}
use Rattle.mailslot.specs.Message.{is_mailslot_name}
use Rattle.mailslot.proofs.Laws.Name.{name-whole}
use Rattle.mailslot.proofs.judge.is_mailslot_name.Goals as goal

pub returns-then-s-gt-MAILSLOT_NAME_MOST : goal.returns-then-s-gt-MAILSLOT_NAME_MOST
unfolding is_mailslot_name
returns-then-s-gt-MAILSLOT_NAME_MOST c =
    let s = c.args.s.now in
    let h : 64 < length s = c.if-s-gt-MAILSLOT_NAME_MOST.true in
    rw (lt-leb (length s) 64 h)

pub returns : goal.returns
unfolding is_mailslot_name
returns c =
    let s = c.args.s.now in
    let h : length s ≤ 64 = omega arith in
    rw (le-leb (length s) 64 h) (name-whole s c.name_run.result c.name_run.ensures)
