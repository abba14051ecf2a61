use mathlib.Core.Path.{◌≡◌, sym, ap, ◌∙◌, subst}
use mathlib.Core.List.{List}
use Prim.Native.Nat.{ℕ, ◌+◌, ◌-◌}
use native.Mathlib.Omega.{arith}
use lib.ListN.{length, get_or}
use Rattle.std.proofs.Common.{rules}
use Rattle.table.specs.Site.{site_of}
use Rattle.table_refer.specs.Internal.Mark.{number_at, Seen}
use Rattle.table_refer.proofs.Laws.Mark.{length-with_mark, seen_none, seen_twice, seen_once}
use Rattle.table_refer.proofs.mark.mark_sites.Goals as goal
use Rattle.table_refer.proofs.mark.mark_sites.Goals.{After-number-number}

-- the number that was read, and what is seen after it
number : (c : After-number-number) → let a = c.args in c.number-number.result ≡ number_at a.image.now (get_or a.sites.now (c.loop-i.i - 1) 0)
number c = c.number-number.ensures ∙ ap (λ (s : List ℕ). (site_of s).number) c.record_at.ensures

seen : (c : After-number-number) → let a = c.args in Seen c.loop-i.marks a.image.now a.sites.now (c.loop-i.i - 1 + 1)
seen c =
    let a = c.args in
    let l = c.loop-i in
    let back : l.i ≡ l.i - 1 + 1 = omega arith in
    subst (Seen l.marks a.image.now a.sites.now) back l.invariant.1

pub loop-i-init : goal.loop-i-init
loop-i-init c = let a = c.args in (search rules, seen_none a.marks.now a.image.now a.sites.now c.requires)

pub returns-then-is_marked-clause-value : goal.returns-then-is_marked-clause-value
returns-then-is_marked-clause-value c =
    let a = c.args in
    let l = c.loop-i in
    let at = (goal.at.returns-then-is_marked-clause-value c).After-number-number in
    seen_twice l.marks a.image.now a.sites.now (l.i - 1) c.number-number.result (omega arith) (number at) (seen at) (sym c.is_marked.ensures ∙ c.if-is_marked.true)

pub loop-i-preserved : goal.loop-i-preserved
loop-i-preserved c =
    let a = c.args in
    let l = c.loop-i in
    let at = (goal.at.loop-i-preserved c).After-number-number in (
      ap (λ m. length m.octets) c.mark.ensures ∙ length-with_mark l.marks c.number-number.result ∙ l.invariant.0,
      subst (λ m. Seen m a.image.now a.sites.now (l.i - 1)) (sym c.mark.ensures)
          (seen_once l.marks a.image.now a.sites.now (l.i - 1) c.number-number.result (omega arith) (number at) (seen at) (sym c.is_marked.ensures ∙ c.if-is_marked.false) (omega arith)),
    )
