use Rattle.std.proofs.Common.{Ok, Err, is_some, ℕ}
use mathlib.Core.Path.{◌≡◌, refl, sym, ap, ◌∙◌}
use mathlib.Core.Bool.{true, false}
use Prim.Native.Nat.{◌≤◌}
use native.Mathlib.Omega.{arith}
use borrow.Author.Rules.{rules}
use lib.ListN.{length}
use Rattle.octets.proofs.Laws.Buffer.{over_none}
use Rattle.octets.specs.Lists.{any}
use Rattle.answers.specs.declared.Refusal.TheVariants.{FilterShape, FilterLength, NoRoom}
use Rattle.answers.proofs.Laws.Written.{written_promised}
use Rattle.filter.specs.Request.{clause_names, clause}
use Rattle.filter_position.specs.Filter.{filter_limit}
use Rattle.filter_octets.specs.Internal.Size.{element_size, contents}
use Rattle.filter_octets.proofs.Laws.Size.{filter-length}
use Rattle.filter_write.specs.Write.{WriteFilterReturns, WriteFilterLeaves}
use Rattle.filter_write.proofs.Laws.Write.{same_any, capped_long, capped_short, answer_none, answer_long, answer_room, answer_good}
use Rattle.filter_write.proofs.write.write_filter.Goals as goal
use Rattle.filter_write.proofs.write.write_filter.Goals.{After-element_size-total}

-- where 5 is not given, the size is the filter's own
module _ (c : After-element_size-total) where
  exact : c.element_size-total.result ≤ filter_limit → c.element_size-total.result ≡ element_size (length (contents c.args.source.now c.args.request clause_names))
  exact b = c.element_size-total.ensures.value ∙ ap element_size (capped_short _ _ c.contents_size-size.ensures (rw c.element_size-total.ensures.value at b))

  some-clause : any (λ name. is_some (clause c.args.request name)) clause_names ≡ true
  some-clause =
      let w : c.has_clause.result ≡ true = search rules in
      sym (c.has_clause.ensures ∙ same_any (λ name. is_some (clause c.args.request name)) clause_names) ∙ w

pub returns-then-not-has_clause : goal.returns-then-not-has_clause
returns-then-not-has_clause c =
    let p = c.args in
    let h : c.has_clause.result ≡ false = search rules in
    let w : WriteFilterReturns p.source.now p.request p.out.now (Err FilterShape) × WriteFilterLeaves p.source.now p.request p.out.now p.out.now =
    written_promised _ _ (rw (answer_none p.source.now p.request (length p.out.now) (sym (c.has_clause.ensures ∙ same_any (λ name. is_some (clause p.request name)) clause_names) ∙ h)) (refl, sym (over_none p.out.now))) in
    record { write_filter_returns = w.0; write_filter_leaves = w.1 }

pub returns-then-total-gt-FILTER_LIMIT : goal.returns-then-total-gt-FILTER_LIMIT
returns-then-total-gt-FILTER_LIMIT c =
    let p = c.args in
    let t : c.has_clause.result ≡ true = search rules in
    let e = sym (c.has_clause.ensures ∙ same_any (λ name. is_some (clause p.request name)) clause_names) ∙ t in
    let l = capped_long _ _ c.contents_size-size.ensures (rw c.element_size-total.ensures.value at c.if-total-gt-FILTER_LIMIT.true) in
    let w : WriteFilterReturns p.source.now p.request p.out.now (Err FilterLength) × WriteFilterLeaves p.source.now p.request p.out.now p.out.now =
    written_promised _ _ (rw (answer_long p.source.now p.request (length p.out.now) e l) (refl, sym (over_none p.out.now))) in
    record { write_filter_returns = w.0; write_filter_leaves = w.1 }

pub returns-then-out-total : goal.returns-then-out-total
returns-then-out-total c =
    let p = c.args in
    let b : c.element_size-total.result ≤ filter_limit = omega arith in
    let x = exact (goal.at.returns-then-out-total c).After-element_size-total b in
    let w : WriteFilterReturns p.source.now p.request p.out.now (Err NoRoom) × WriteFilterLeaves p.source.now p.request p.out.now p.out.now =
    written_promised _ _ (rw (answer_room p.source.now p.request (length p.out.now) (some-clause (goal.at.returns-then-out-total c).After-element_size-total) (rw x at b) (rw x at c.if-out-total.true)) (refl, sym (over_none p.out.now))) in
    record { write_filter_returns = w.0; write_filter_leaves = w.1 }

pub returns : goal.returns
returns c =
    let p = c.args in
    let b : c.element_size-total.result ≤ filter_limit = omega arith in
    let x = exact (goal.at.returns c).After-element_size-total b in
    let w : WriteFilterReturns p.source.now p.request p.out.now (Ok c.element_size-total.result) × WriteFilterLeaves p.source.now p.request p.out.now c.put_filter.new.out =
    written_promised _ _
    (rw (answer_good p.source.now p.request (length p.out.now) (some-clause (goal.at.returns c).After-element_size-total) (rw x at b) (rw x at c.if-out-total.false))
    (ap (λ (k : ℕ). Ok k) (x ∙ sym (filter-length p.source.now p.request)), c.put_filter.ensures)) in
    record { write_filter_returns = w.0; write_filter_leaves = w.1 }
