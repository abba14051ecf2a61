use mathlib.Core.Path.{ap, ◌∙◌}
use mathlib.Core.Bool.{not}
use mathlib.Core.List.{List}
use Prim.Native.Nat.{ℕ}
use Rattle.unicode_text.specs.UserName.{is_user_name}
use Rattle.filter_read.proofs.wrong_value.is_wrong_user.Goals as goal

pub returns : goal.returns
returns c =
    rw c.in-Some.is
    (ap not c.is_user_name.ensures ∙ ap (λ (x : List ℕ). not (is_user_name x)) c.of.ensures)
