use mathlib.Core.Path.{◌≡◌, sym, ap, ◌∙◌}
use mathlib.Core.Bool.{true}
use mathlib.Core.List.{List}
use Prim.Native.Nat.{ℕ, ◌+◌, ◌-◌, ◌≤◌}
use native.Mathlib.Omega.{arith}
use lib.ListN.{length, drop, length-drop}
use Rattle.octets.specs.Label.{labels}
use Rattle.names.specs.Internal.Plan.{tails_from, offers_tail, aimed}
use Rattle.names.proofs.Laws.Plan.CommonTail.{common_tail, offers_common}
use Rattle.names.proofs.Laws.Plan.Tails.{offers_length}
use Rattle.names.proofs.Laws.Plan.Search.{search_from, search_empty, search_start, search_end, search_here, search_next}
use Rattle.names.proofs.plan.aim_in.Goals as goal
use Rattle.names.proofs.plan.aim_in.Goals.{After-offers_tail}

-- the tail that is offered
module _ (c : After-offers_tail) where
  abbrev text : List ℕ
  text = c.args.text.now

  abbrev before : ℕ
  before = c.loop-before.before

  offered : c.offers_tail.result ≡ offers_tail c.args.earlier.now c.args.literal (drop before text)
  offered =
      let p = c.args in
      c.offers_tail.ensures ∙ offers_common p.earlier.now text p.literal c.common_tail-common.result before (common_tail p.earlier.now text _ c.common_tail-common.ensures) (omega arith)

-- it is no longer than the name that offers it
fits : (c : After-offers_tail) → c.offers_tail.result ≡ true → length (text c) - before c ≤ length c.args.earlier.now
fits c t =
    let p = c.args in
    let x : List ℕ = drop (before c) (text c) in
    omega (arith, offers_length x p.earlier.now p.literal (sym (offered c) ∙ t), length-drop (before c) (text c))

pub returns-then-text-eq0 : goal.returns-then-text-eq0
returns-then-text-eq0 c =
    let p = c.args in
    record {
      value = search_empty (tails_from p.offset p.literal (labels p.earlier.now)) p.text.now c.if-text-eq0.true;
      aim_within = tt;
    }

pub loop-before-init : goal.loop-before-init
loop-before-init c =
    let p = c.args in
    (omega arith, search_start (tails_from p.offset p.literal (labels p.earlier.now)) p.text.now c.if-text-eq0.false)

pub overflow_sub-size : goal.overflow_sub-size
overflow_sub-size c = omega arith

pub offers_tail-requires : goal.offers_tail-requires
offers_tail-requires c = (common_tail c.args.earlier.now c.args.text.now _ c.common_tail-common.ensures).first

pub overflow_sub-result : goal.overflow_sub-result
overflow_sub-result c = fits (goal.at.overflow_sub-result c).After-offers_tail c.if-offers_tail.true

pub overflow_add-result : goal.overflow_add-result
overflow_add-result c = omega arith

pub returns-then-offers_tail : goal.returns-then-offers_tail
returns-then-offers_tail c =
    let p = c.args in
    let l = c.loop-before in
    let e : length p.text.now - l.before ≡ length (drop l.before p.text.now) = sym (length-drop l.before p.text.now) in
    record {
      value = ap (λ (n : ℕ). aimed l.before (p.offset + (length p.earlier.now - n))) e
          ∙ search_here p.offset p.literal p.earlier.now c.requires.2 p.text.now l.before (omega arith) (sym (offered (goal.at.returns-then-offers_tail c).After-offers_tail) ∙ c.if-offers_tail.true)
          ∙ l.invariant.1;
      aim_within = (omega arith, omega arith);
    }

pub label_end-before-requires : goal.label_end-before-requires
label_end-before-requires c = omega arith

pub overflow_add-before : goal.overflow_add-before
overflow_add-before c = omega arith

pub loop-before-smaller : goal.loop-before-smaller
loop-before-smaller c = omega arith

pub loop-before-preserved : goal.loop-before-preserved
loop-before-preserved c =
    let p = c.args in
    let l = c.loop-before in (
      omega arith,
      ap (λ (n : ℕ). search_from (tails_from p.offset p.literal (labels p.earlier.now)) p.text.now (n + 1)) c.label_end-before.ensures.0
          ∙ search_next p.offset p.literal p.earlier.now c.requires.2 p.text.now l.before (omega arith) (sym (offered (goal.at.loop-before-preserved c).After-offers_tail) ∙ c.if-offers_tail.false)
          ∙ l.invariant.1,
    )

pub returns : goal.returns
returns c =
    let p = c.args in
    let l = c.loop-before in
    record {
      value = search_end (tails_from p.offset p.literal (labels p.earlier.now)) p.text.now l.before (omega arith) ∙ l.invariant.1;
      aim_within = tt;
    }
