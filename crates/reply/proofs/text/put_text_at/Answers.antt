use mathlib.Core.Path.{ap, ◌∙◌}
use mathlib.Core.List.{List}
use Prim.Native.Nat.{ℕ, ◌+◌, ◌-◌}
use native.Mathlib.Omega.{arith}
use lib.ListN.{length, get_or, take, drop, length-take, length-drop}
use Rattle.octets.specs.Buffer.{over}
use Rattle.octets.proofs.Laws.Buffer.{lent_back}
use Rattle.lent.specs.Internal.OverAt.{over_at}
use Rattle.lent.proofs.Laws.Stretch.{text_short}
use Rattle.reply.specs.Reply.{text16}
use Rattle.lent.specs.Internal.Stretch.{octets_at}
use Rattle.reply.proofs.text.put_text_at.Goals as goal

pub put_text-requires : goal.put_text-requires
put_text-requires c =
    let a = c.args in
    let e = c.text.ensures in
    let s = text_short a.lent.table.now a.lent.request.now a.slot in (
      omega (arith, ap length e, s),
      simp (length-take, length-drop) (omega (arith, ap (λ (x : List ℕ). length (text16 x)) e, c.requires)),
    )

pub overflow_add-result : goal.overflow_add-result
overflow_add-result c =
    let e = ap (λ (x : List ℕ). length (text16 x)) c.text.ensures in
    omega (arith, c.put_text.ensures.value, c.requires)

pub returns : goal.returns
unfolding over_at
returns c =
    let a = c.args in
    let e = c.text.ensures in
    let w = c.put_text in
    let x : List ℕ = text16 (octets_at a.lent.table.now a.lent.request.now a.slot) in
    let d : List ℕ = a.out.now in
    record {
      value = ap (λ (k : ℕ). a.at + k) (w.ensures.value ∙ ap (λ (y : List ℕ). length (text16 y)) e);
      out_after = lent_back x w.new.out d a.at (w.ensures.out_after ∙ ap (λ (y : List ℕ). over (text16 y) (take (length d - a.at) (drop a.at d))) e);
    }
