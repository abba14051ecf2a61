use Rattle.unicode_text.specs.UserName.{is_user_name}
use borrow.Author.Tests.{lt-leb, le-leb, not-true, not-false}
use mathlib.Core.Path.{sym, ◌∙◌}
use Prim.Native.Nat.{◌≤◌, ◌<◌}
use native.Mathlib.Omega.{arith}
use borrow.Author.Rules.{rules}
use lib.ListN.{length}
use Rattle.unicode_text.proofs.user_name.is_user_name.Goals as goal

pub returns-then-s-gt-USER_NAME_MOST : goal.returns-then-s-gt-USER_NAME_MOST
unfolding is_user_name
returns-then-s-gt-USER_NAME_MOST c =
    let s = c.args.s.now in
    let h : 63 < length s = omega arith in
    rw (lt-leb (length s) 63 h)

pub returns-then-not-is_utf8 : goal.returns-then-not-is_utf8
unfolding is_user_name
returns-then-not-is_utf8 c =
    let s = c.args.s.now in
    let h : length s ≤ 63 = omega arith in
    rw (le-leb (length s) 63 h, sym c.is_utf8.ensures ∙ not-true _ c.if-not-is_utf8.true-raw)

pub returns : goal.returns
unfolding is_user_name
returns c =
    let s = c.args.s.now in
    let h : length s ≤ 63 = omega arith in
    c.lacks.ensures ∙ rw (le-leb (length s) 63 h, sym c.is_utf8.ensures ∙ not-false _ c.if-not-is_utf8.false-raw)
