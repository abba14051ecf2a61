use mathlib.Core.Path.{◌≡◌, refl, sym, ap, subst, ◌∙◌}
use Rattle.std.specs.Ordering.{is_ne}
use Rattle.account_names.proofs.Laws.Ordering.{equal_numbers}
use Prim.Native.Nat.{ℕ, ◌+◌, ◌≤◌, ◌<◌}
use native.Mathlib.Omega.{arith}
use lib.ListN.{get_or}
use Rattle.unicode_text.specs.Internal.Point.{size_of}
use Rattle.account_names.specs.Internal.NameOrder.{RankRead, GoesOn}
use Rattle.account_names.proofs.Laws.NameOrder.{rank_decides, rank_next}
use Rattle.account_names.proofs.compare.compare_from.Goals as goal
use Rattle.account_names.proofs.compare.compare_from.Goals.{Else-x-eq0, Then-size-gt0}

-- what is alike is passed over
passed : (c : Then-size-gt0)
    → let p = c.args in
    let l = c.loop-i in
    let n = c.alike_size-size.result in
    (1 ≤ n) × GoesOn p.a.now l.i (l.i + n) p.b.now l.j (l.j + n)
passed c = let some : 1 ≤ c.alike_size-size.result = c.if-size-gt0.true in (some, c.alike_size-size.ensures some)

-- both have the same code point, folded: the names go on behind it
next-read : (c : Else-x-eq0)
    → let p = c.args in
    let l = c.loop-i in
    let x = l.i + size_of (get_or p.a.now l.i 0) in
    let y = l.j + size_of (get_or p.b.now l.j 0) in
    (l.i < x) × (l.j < y) × GoesOn p.a.now l.i x p.b.now l.j y
next-read c =
    let p = c.args in
    let l = c.loop-i in
    let x = c.rank_at-x in
    let y = c.rank_at-y in
    let next = l.j + size_of (get_or p.b.now l.j 0) in
    let e : y.result ≡ x.result = sym (equal_numbers _ _ (ap is_ne (sym c.cmp-order.ensures) ∙ sym c.is_ne.ensures ∙ c.if-is_ne.false)) in
    rank_next p.a.now p.b.now l.i l.j (l.i + size_of (get_or p.a.now l.i 0)) next x.result x.ensures (subst (λ (k : ℕ). RankRead p.b.now l.j k next) e y.ensures) c.if-x-eq0.false

pub loop-i-init : goal.loop-i-init
loop-i-init c = let e = c in (e.requires.0, e.requires.1, refl)

pub overflow_add-i : goal.overflow_add-i
overflow_add-i c = omega (arith, (passed (goal.at.overflow_add-i c).Then-size-gt0).1.0)

pub overflow_add-j : goal.overflow_add-j
overflow_add-j c = omega (arith, (passed (goal.at.overflow_add-j c).Then-size-gt0).1.1)

pub loop-i-smaller-then-size-gt0 : goal.loop-i-smaller-then-size-gt0
loop-i-smaller-then-size-gt0 c = omega (arith, (passed (goal.at.loop-i-smaller-then-size-gt0 c).Then-size-gt0).0, (passed (goal.at.loop-i-smaller-then-size-gt0 c).Then-size-gt0).1.0)

pub loop-i-preserved-then-size-gt0 : goal.loop-i-preserved-then-size-gt0
loop-i-preserved-then-size-gt0 c = let h = (passed (goal.at.loop-i-preserved-then-size-gt0 c).Then-size-gt0).1 in (h.0, h.1, h.2 ∙ c.loop-i.invariant.2)

pub returns-then-is_ne : goal.returns-then-is_ne
returns-then-is_ne c =
    let p = c.args in
    c.cmp-order.ensures
    ∙ rank_decides p.a.now p.b.now _ _ _ _ _ _ c.rank_at-x.ensures c.rank_at-y.ensures (ap is_ne (sym c.cmp-order.ensures) ∙ sym c.is_ne.ensures ∙ c.if-is_ne.true)
    ∙ c.loop-i.invariant.2

pub compare_ends-requires : goal.compare_ends-requires
compare_ends-requires c =
    let p = c.args in
    let l = c.loop-i in
    let x = c.rank_at-x in
    let y = c.rank_at-y in
    let e : y.result ≡ 0 = sym (equal_numbers _ _ (ap is_ne (sym c.cmp-order.ensures) ∙ sym c.is_ne.ensures ∙ c.if-is_ne.false)) ∙ c.if-x-eq0.true in (
      subst (λ (k : ℕ). RankRead p.a.now l.i k (l.i + size_of (get_or p.a.now l.i 0))) c.if-x-eq0.true x.ensures,
      subst (λ (k : ℕ). RankRead p.b.now l.j k (l.j + size_of (get_or p.b.now l.j 0))) e y.ensures,
    )

pub returns-then-x-eq0 : goal.returns-then-x-eq0
returns-then-x-eq0 c = c.compare_ends.ensures ∙ c.loop-i.invariant.2

pub bounds-a-i : goal.bounds-a-i
bounds-a-i c = let n = next-read (goal.at.bounds-a-i c).Else-x-eq0 in omega (arith, n.0, n.2.0)

pub overflow_add-i-else-size-gt0 : goal.overflow_add-i-else-size-gt0
overflow_add-i-else-size-gt0 c = let n = next-read (goal.at.overflow_add-i-else-size-gt0 c).Else-x-eq0 in omega (arith, n.2.0, c.size_of-i.ensures)

pub bounds-b-j : goal.bounds-b-j
bounds-b-j c = let n = next-read (goal.at.bounds-b-j c).Else-x-eq0 in omega (arith, n.1, n.2.1)

pub overflow_add-j-else-size-gt0 : goal.overflow_add-j-else-size-gt0
overflow_add-j-else-size-gt0 c = let n = next-read (goal.at.overflow_add-j-else-size-gt0 c).Else-x-eq0 in omega (arith, n.2.1, c.size_of-j.ensures)

pub loop-i-smaller : goal.loop-i-smaller
loop-i-smaller c = let n = next-read (goal.at.loop-i-smaller c).Else-x-eq0 in omega (arith, n.0, n.2.0, c.size_of-i.ensures)

pub loop-i-preserved : goal.loop-i-preserved
loop-i-preserved c =
    let n = next-read (goal.at.loop-i-preserved c).Else-x-eq0 in
    rw (c.size_of-i.ensures, c.size_of-j.ensures) (n.2.0, n.2.1, n.2.2 ∙ c.loop-i.invariant.2)
