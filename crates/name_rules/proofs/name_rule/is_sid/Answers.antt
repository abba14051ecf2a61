use Rattle.octets.proofs.Laws.Sid.{sid-short, sid_revision, sid_count, sid-length}
use lib.ListN.{length}
use lib.Dec.{eqb}
use Prim.Native.Nat.{ℕ, ◌+◌, ◌*◌, ◌<◌, ◌≤◌}
use mathlib.Core.Path.{ap, subst, ◌∙◌}
use Rattle.name_rules.proofs.name_rule.is_sid.Goals as goal

pub returns-then-s-lt8 : goal.returns-then-s-lt8
returns-then-s-lt8 c = sid-short _ c.if-s-lt8.true

pub returns-then-s-ne1 : goal.returns-then-s-ne1
returns-then-s-ne1 c = sid_revision _ c.if-s-ne1.true

pub returns-then-count-gt15 : goal.returns-then-count-gt15
returns-then-count-gt15 c =
    let s = c.args.s.now in
    sid_count s c.if-s-ne1.false (subst (λ (n : ℕ). 15 < n) c.wide-count.ensures.0 c.if-count-gt15.true)

pub returns : goal.returns
returns c =
    let s = c.args.s.now in
    ap (λ (n : ℕ). eqb (length s) (8 + 4 * n)) c.wide-count.ensures.0
    ∙ sid-length s c.if-s-ne1.false (subst (λ (n : ℕ). n ≤ 15) c.wide-count.ensures.0 c.if-count-gt15.false)
