use Prim.Native.Nat.{◌≤◌}
use native.Mathlib.Omega.{arith}
use borrow.Author.Tests.{not-false}
use lib.ListN.{length}
use Rattle.unicode_text.proofs.Laws.UserName.{user-name-short}
use Rattle.choose_reply.proofs.Laws.Lends.{cut-own}
use Rattle.choose_reply.proofs.text.user_text.Goals as goal

pub invariant_of-result : goal.invariant_of-result
invariant_of-result c = record { short = omega arith }

pub invariant_of-result-2 : goal.invariant_of-result-2
invariant_of-result-2 c =
    let named = rw c.in-Some.is at c.requires in
    let short : length c.of.result.now ≤ 63 = rw c.of.ensures (user-name-short _ (not-false _ named)) in
    record { short = omega arith }

pub returns : goal.returns
returns c =
    let entry = c in
    let there = cut-own entry.args.source.now c.in-Some.user.start c.in-Some.user.len in
    λ table. rw c.in-Some.is (rw c.of.ensures there)
