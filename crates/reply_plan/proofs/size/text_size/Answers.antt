use mathlib.Core.Path.{sym, ap, ◌∙◌}
use mathlib.Core.List.{List}
use Prim.Native.Nat.{ℕ, ◌+◌, ◌≤◌}
use native.Mathlib.Omega.{arith}
use lib.ListN.{length}
use Rattle.lent.specs.Internal.Stretch.{octets_at}
use Rattle.lent.proofs.Laws.Stretch.{text_short}
use Rattle.unicode_text.specs.Utf16.{utf16}
use Rattle.reply.proofs.Laws.Reply.{text-length}
use Rattle.reply_plan.proofs.size.text_size.Goals as goal
use Rattle.reply_plan.proofs.size.text_size.Goals.{After-text}

short : (c : After-text) → length c.text.result.now ≤ 255
short c = omega (arith, ap length c.text.ensures, text_short c.args.lent.table.now c.args.lent.request.now c.args.text)

pub utf16_size-requires : goal.utf16_size-requires
utf16_size-requires c = short (goal.at.utf16_size-requires c).After-text

pub overflow_add-result : goal.overflow_add-result
overflow_add-result c = omega (arith, short (goal.at.overflow_add-result c).After-text)

pub returns : goal.returns
returns c =
    let a = c.args in
    let e = ap (λ (x : List ℕ). length (utf16 x)) c.text.ensures in
    let s = short (goal.at.returns c).After-text in
    (ap (λ (k : ℕ). k + 2) (c.utf16_size.ensures.0 ∙ e) ∙ sym (text-length (octets_at a.lent.table.now a.lent.request.now a.text)), omega arith)
