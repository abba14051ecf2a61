use mathlib.Core.Path.{ap}
use Rattle.octets.specs.Lists.{cut}
use lib.ListN.{length}
use Prim.Native.Nat.{◌+◌, ◌-◌, ◌≤◌}
use Rattle.octets.proofs.Laws.Lists.{cut-past, cut_rest}
use native.Mathlib.Omega.{arith}
use mathlib.Core.Path.{◌≡◌, sym, ◌∙◌}
use Rattle.octets.proofs.part.part.Goals as goal

pub returns-then-s-start : goal.returns-then-s-start
returns-then-s-start c = let a = c.args in sym (cut-past a.s.now a.start a.len c.if-s-start.true)

pub returns-then-s-start-2 : goal.returns-then-s-start-2
returns-then-s-start-2 c =
    let a = c.args in
    let s = a.s.now in
    let fits : length s - a.start ≤ a.len = c.if-s-start-2.true in
    let whole : length s - a.start ≤ length s - a.start = omega arith in
    cut_rest s a.start (length s - a.start) whole ∙ sym (cut_rest s a.start a.len fits)

pub returns : goal.returns
returns c =
    let a = c.args in
    let e : a.start + a.len - a.start ≡ a.len = omega arith in
    ap (λ n. cut a.s.now a.start n) e
