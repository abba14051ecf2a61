use Rattle.unicode_text.specs.UserName.{is_account_name}
use borrow.Author.Tests.{lt-leb, le-leb}
use mathlib.Core.Path.{◌∙◌}
use borrow.Author.Rules.{rules}
use Rattle.unicode_text.proofs.user_name.is_account_name.Goals as goal

pub returns-then-s-lt1 : goal.returns-then-s-lt1
unfolding is_account_name
returns-then-s-lt1 c = rw (lt-leb 1 _ c.if-s-lt1.true)

pub returns : goal.returns
unfolding is_account_name
returns c = c.is_user_name.ensures ∙ rw (le-leb 1 _ c.if-s-lt1.false)
