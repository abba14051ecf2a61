use mathlib.Core.Path.{◌≡◌, sym, ap, ◌∙◌}
use mathlib.Core.Bool.{true}
use mathlib.Core.List.{List}
use Prim.Native.Nat.{ℕ, ◌+◌}
use native.Mathlib.Omega.{arith}
use lib.ListN.{length}
use Rattle.lent.specs.Internal.Stretch.{octets_at}
use Rattle.reply.specs.Reply.{address_if}
use Rattle.reply.proofs.Laws.Reply.{address-length}
use Rattle.reply_plan.proofs.size.address_size.Goals as goal

pub returns-then-not-asked : goal.returns-then-not-asked
returns-then-not-asked c =
    let a = c.args in
    (ap (λ b. length (address_if b (octets_at a.lent.table.now a.lent.request.now a.ipv4))) (sym c.if-not-asked.true), omega arith)

pub returns : goal.returns
returns c =
    let a = c.args in
    let x : List ℕ = octets_at a.lent.table.now a.lent.request.now a.ipv4 in
    let e : true ≡ a.asked = sym c.if-not-asked.false in
    (ap (λ (k : ℕ). k + 13) c.stretch_size.ensures.0 ∙ sym (address-length x) ∙ ap (λ b. length (address_if b x)) e, omega arith)
