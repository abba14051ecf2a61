use mathlib.Core.Path.{refl, ap, ◌∙◌}
use Prim.Native.Nat.{ℕ, ◌+◌}
use native.Mathlib.Omega.{arith}
use Rattle.octets.specs.Fold.{fold_point}
use Rattle.account_names.proofs.Laws.NameOrder.{ranked_end, ranked_code, ranked_ascii}
use Rattle.account_names.proofs.compare.rank_at.Goals as goal

pub returns-then-s-at : goal.returns-then-s-at
returns-then-s-at c =
    let a = c.args in
    ranked_end a.s.now a.at a.at c.if-s-at.true

pub returns-then-lead-lt128 : goal.returns-then-lead-lt128
returns-then-lead-lt128 c =
    let a = c.args in
    let w = c.wide.ensures in
    ranked_ascii a.s.now a.at _ (omega arith, c.if-lead-lt128.true) (c.rank_of.ensures.0 (omega (arith, w.1)) ∙ ap (λ (n : ℕ). fold_point n + 1) w.0)

pub returns : goal.returns
returns c =
    let a = c.args in
    ranked_code a.s.now a.at _ _ _
    (c.point_of-point.ensures a.s.now a.at (omega arith, refl, c.octet_at.ensures, λ h. c.octet_at-2.ensures, λ h. c.octet_at-3.ensures))
    c.rank_of-2.ensures
