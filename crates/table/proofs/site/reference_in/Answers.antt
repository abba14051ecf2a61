use Rattle.std.proofs.Common.{Some}
use Prim.Native.Nat.{ℕ}
use mathlib.Core.Path.{sym, ap, ◌∙◌}
use Rattle.table.specs.Countings.{site_number}
use borrow.Author.Tests.{eq-eqb, ne_eqb}
use Rattle.table.proofs.site.reference_in.Goals as goal

pub returns-then-number-eq0 : goal.returns-then-number-eq0
returns-then-number-eq0 c = rw (eq-eqb _ _ (sym c.u16_in-number.ensures ∙ c.if-number-eq0.true))

pub returns : goal.returns
returns c =
    let e = c.u16_in-number.ensures in
    rw (ne_eqb _ _ (λ q. c.if-number-eq0.false (e ∙ q))) (ap (λ (n : ℕ). Some (site_number n)) e)
