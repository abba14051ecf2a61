use mathlib.Core.Path.{◌≡◌, sym, ap, ◌∙◌}
use mathlib.Core.Bool.{Bool, true, false}
use borrow.Author.Rules.{rules}
use borrow.Author.Tests.{lt-ltb, le-ltb}
use lib.ListN.{length}
use Rattle.filter_position.specs.Filter.{clauses_of}
use Rattle.filter_gather.specs.Internal.Gather.{Gathered, gathering_of, gathered_from, nothing}
use Rattle.filter_read.specs.Taken.{request_in}
use Rattle.filter_read.proofs.Laws.Gather.{answer_of, gathered_none, gathered_some}
use Rattle.filter_read.proofs.clauses.read_clauses.Goals as goal
use Rattle.filter_read.proofs.clauses.read_clauses.Goals.{After-whole, Else-not-whole}

-- what is gathered from nothing
gathered : (c : After-whole) → (b : Bool) → c.whole.result ≡ b → gathered_from c.args.s.now nothing (clauses_of c.args.s.now) ≡ gathering_of b c.whole.new.seen
gathered c b e =
    let s = c.args.s.now in
    let r = c.requires in
    sym (ap (λ (x : Bool). gathering_of x c.whole.new.seen) (sym e) ∙ c.whole.ensures ∙ ap (λ (x : Gathered). gathered_from s x (clauses_of s)) r)

-- what was gathered is what document 01 says of the filter
seen : (c : Else-not-whole) → ((b : Bool) → c.whole.result ≡ b → gathered_from c.args.s.now nothing (clauses_of c.args.s.now) ≡ gathering_of b c.whole.new.seen) → request_in c.args.s.now ≡ answer_of c.whole.new.seen
unfolding request_in
seen c g =
    let s = c.args.s.now in
    let w : c.whole.result ≡ true = search rules in
    rw (request_in, le-ltb 2048 (length s) c.if-s-gt-FILTER_LIMIT.false) (gathered_some s (clauses_of s) c.whole.new.seen (g true w))

pub returns-then-s-gt-FILTER_LIMIT : goal.returns-then-s-gt-FILTER_LIMIT
unfolding request_in
returns-then-s-gt-FILTER_LIMIT c = rw (request_in, lt-ltb 2048 (length c.args.s.now) c.if-s-gt-FILTER_LIMIT.true)

pub returns-then-not-whole : goal.returns-then-not-whole
unfolding request_in
returns-then-not-whole c =
    let s = c.args.s.now in
    let w : c.whole.result ≡ false = search rules in
    let e = gathered_none s (clauses_of s) (gathered (goal.at.returns-then-not-whole c).After-whole false w) in
    rw (request_in, le-ltb 2048 (length s) c.if-s-gt-FILTER_LIMIT.false, e)

pub returns-then-has_unknown : goal.returns-then-has_unknown
returns-then-has_unknown c =
    let u : c.whole.new.seen.unknown ≡ true = sym c.has_unknown.ensures ∙ c.if-has_unknown.true in
    rw (seen (goal.at.returns-then-has_unknown c).Else-not-whole (gathered (goal.at.returns-then-has_unknown c).After-whole), u)

pub returns-then-has_duplicate : goal.returns-then-has_duplicate
returns-then-has_duplicate c =
    let u : c.whole.new.seen.unknown ≡ false = sym c.has_unknown.ensures ∙ c.if-has_unknown.false in
    let d : c.whole.new.seen.duplicate ≡ true = sym c.has_duplicate.ensures ∙ c.if-has_duplicate.true in
    rw (seen (goal.at.returns-then-has_duplicate c).Else-not-whole (gathered (goal.at.returns-then-has_duplicate c).After-whole), u, d)

pub returns : goal.returns
returns c =
    let u : c.whole.new.seen.unknown ≡ false = sym c.has_unknown.ensures ∙ c.if-has_unknown.false in
    let d : c.whole.new.seen.duplicate ≡ false = sym c.has_duplicate.ensures ∙ c.if-has_duplicate.false in
    rw (seen (goal.at.returns c).Else-not-whole (gathered (goal.at.returns c).After-whole), u, d)
