use mathlib.Core.Path.{sym, ◌∙◌}
use mathlib.Core.Bool.{and-false}
use Prim.Native.Nat.{◌<◌}
use native.Mathlib.Omega.{arith}
use lib.ListN.{length}
use borrow.Author.Tests.{lt-leb}
use Rattle.mailslot.specs.Message.{is_text16, is_computer_name}
use Rattle.mailslot.proofs.Laws.Run.{user-whole}
use Rattle.mailslot.proofs.Laws.User.{octets_known, computer-user}
use borrow.Author.Rules.{rules}
use Rattle.mailslot.proofs.judge.is_computer_name.Goals as goal

pub returns-then-s-gt-COMPUTER_NAME_MOST : goal.returns-then-s-gt-COMPUTER_NAME_MOST
unfolding is_computer_name
returns-then-s-gt-COMPUTER_NAME_MOST c =
    let s = c.args.s.now in
    let h : 30 < length s = c.if-s-gt-COMPUTER_NAME_MOST.true in
    sym (rw (lt-leb (length s) 30 h) (and-false (is_text16 s)))

pub returns : goal.returns
returns c =
    let s = c.args.s.now in
    let run = c.text_run in
    user-whole s run.result run.ensures ∙ sym (computer-user s (octets_known s run.ensures.octets) (omega arith))
