use mathlib.Core.Path.{◌≡◌, ap, ◌∙◌}
use Prim.Native.Nat.{ℕ, ◌+◌, ◌≤◌}
use mathlib.Core.List.{List}
use native.Mathlib.Omega.{arith}
use lib.ListN.{length, get_or, length-take}
use Rattle.octets.specs.Lists.{cut}
use Rattle.table.specs.Field.{text_at}
use Rattle.choose_reply.proofs.Laws.Lends.{cut-within}
use Rattle.choose_reply.proofs.text.text_stretch.Goals as goal

pub invariant_of-result : goal.invariant_of-result
invariant_of-result c =
    let short : length c.part.result.now ≤ 255 = rw c.part.ensures (simp length-take (omega (arith, c.wide-len.ensures.1))) in
    record { short = short }

pub returns : goal.returns
returns c =
    let a = c.args in
    let whole = cut a.image.now a.offset a.width in
    let octets = c.part-octets.ensures in
    let len = c.wide-len.ensures.0 ∙ c.octet_in.ensures in
    let text : c.part.result.now ≡ text_at whole a.field =
    c.part.ensures ∙ (λ i. cut (octets i) (a.field.offset + 1) (len i)) ∙ ap (λ (s : List ℕ). cut whole (a.field.offset + 1) (get_or s a.field.offset 0)) octets in
    let there = cut-within a.image.now a.offset a.width (a.field.offset + 1) (get_or whole a.field.offset 0) (omega arith) in
    λ request. rw text there
