use mathlib.Core.Path.{sym, ap, ◌∙◌}
use mathlib.Core.List.{List}
use Prim.Native.Nat.{ℕ}
use borrow.Author.Tests.{not-false, not-true}
use lib.Dec.{eqb}
use lib.ListN.{length}
use Rattle.octets.specs.Label.{labels}
use Rattle.octets.specs.Lists.{any}
use Rattle.unicode_text.proofs.Laws.UserName.{user-name-short}
use Rattle.locator.proofs.user.is_wrong_user.Goals as goal

pub returns-then-not-is_ex : goal.returns-then-not-is_ex
returns-then-not-is_ex c = rw (sym c.is_ex.ensures ∙ not-true _ c.if-not-is_ex.true-raw)

pub returns-in_default : goal.returns-in_default
returns-in_default c = rw (sym c.is_ex.ensures ∙ not-false _ c.if-not-is_ex.false-raw, c.in_default.is)

pub has_empty_label-requires : goal.has_empty_label-requires
has_empty_label-requires c =
    let p = c.args in
    let e = c.requires in
    let f = rw c.in-Some.is at e in
    rw c.of.ensures (user-name-short _ (not-false _ f))

pub returns : goal.returns
returns c =
    rw (sym c.is_ex.ensures ∙ not-false _ c.if-not-is_ex.false-raw, c.in-Some.is)
    (c.has_empty_label.ensures ∙ ap (λ (x : List ℕ). any (λ l. eqb (length l) 0) (labels x)) c.of.ensures)
