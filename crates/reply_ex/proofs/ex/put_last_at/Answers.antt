use mathlib.Core.Path.{◌≡◌, refl, sym, ap, subst, ◌∙◌}
use mathlib.Core.Bool.{true, false}
use mathlib.Core.List.{List}
use Prim.Native.Nat.{ℕ, ◌+◌}
use native.Mathlib.Omega.{arith}
use lib.ListN.{length}
use Rattle.answers.specs.Wire.{ex_version, ex_version_with_next_site}
use Rattle.lent.specs.Internal.OverAt.{over_at}
use Rattle.lent.proofs.Laws.OverAt.{laid_none, laid_more}
use Rattle.names.specs.declared.plan.PlannedName.{PlannedName}
use Rattle.names.specs.Internal.Plan.{name_octets, Fit}
use Rattle.reply.specs.Reply.{ending}
use Rattle.reply.specs.Internal.Plan.{last_name, last_octets, LastFits}
use Rattle.reply.proofs.Laws.Reply.{ending-length}
use Rattle.reply.proofs.Laws.Plan.{last-length}
use Rattle.reply_ex.proofs.ex.put_last_at.Goals as goal

pub put_name_at-at-requires : goal.put_name_at-at-requires
put_name_at-at-requires c =
    let a = c.args in
    let T : List ℕ = a.lent.table.now in
    let R : List ℕ = a.lent.request.now in
    let name : PlannedName = last_name a.plan.now.«names» in
    let e : a.raw.now.with_next_site ≡ true = c.if-raw.true in
    let n = ap (λ b. length (last_octets T R b name)) e in
    record {
      fit = subst (Fit T R) (sym c.last_name.ensures) (subst (λ b. LastFits T R b name) e c.requires.last_fits);
      name_in_bounds = omega (arith, last-length T R name, c.requires.names_in_bounds, ap (λ (x : PlannedName). length (name_octets T R x)) c.last_name.ensures);
    }

pub put_ending_at-requires : goal.put_ending_at-requires
put_ending_at-requires c =
    let a = c.args in
    let T : List ℕ = a.lent.table.now in
    let R : List ℕ = a.lent.request.now in
    let name : PlannedName = last_name a.plan.now.«names» in
    let e : a.raw.now.with_next_site ≡ true = c.if-raw.true in
    let n = ap (λ b. length (last_octets T R b name)) e in
    omega (arith, last-length T R name, c.requires.names_in_bounds, c.put_name_at-at.ensures.value, ap (λ (x : PlannedName). length (name_octets T R x)) c.last_name.ensures)

pub put_ending_at-requires-else-raw : goal.put_ending_at-requires-else-raw
put_ending_at-requires-else-raw c =
    let a = c.args in
    let T : List ℕ = a.lent.table.now in
    let R : List ℕ = a.lent.request.now in
    let name : PlannedName = last_name a.plan.now.«names» in
    let e : a.raw.now.with_next_site ≡ false = c.if-raw.false in
    let n = ap (λ b. length (last_octets T R b name)) e in
    omega (arith, ending-length ex_version, c.requires.names_in_bounds)

pub returns-then-raw : goal.returns-then-raw
returns-then-raw c =
    let a = c.args in
    let T : List ℕ = a.lent.table.now in
    let R : List ℕ = a.lent.request.now in
    let name : PlannedName = last_name a.plan.now.«names» in
    let e : a.raw.now.with_next_site ≡ true = c.if-raw.true in
    let w = c.put_name_at-at in
    let o = ap (name_octets T R) c.last_name.ensures in
    let l = laid_more (name_octets T R name) (laid_none a.at a.out.now (omega (arith, c.requires.names_in_bounds)))
    (w.ensures.value ∙ ap (λ (x : List ℕ). a.at + length x) o) (w.ensures.out_after ∙ ap (λ (x : List ℕ). over_at a.at x a.out.now) o) in
    (laid_more (ending ex_version_with_next_site) l refl c.put_ending_at.ensures).buffer
    ∙ ap (λ b. over_at a.at (last_octets T R b name) a.out.now) (sym e)

pub returns-else-raw : goal.returns-else-raw
returns-else-raw c =
    let a = c.args in
    let T : List ℕ = a.lent.table.now in
    let R : List ℕ = a.lent.request.now in
    let name : PlannedName = last_name a.plan.now.«names» in
    let e : a.raw.now.with_next_site ≡ false = c.if-raw.false in
    c.put_ending_at-else-raw.ensures ∙ ap (λ b. over_at a.at (last_octets T R b name) a.out.now) (sym e)
