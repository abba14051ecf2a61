-- The round trip, proved of the definitions and then of the two calls.
pub mod Elements
pub mod Clauses
use Rattle.std.proofs.Common.{Ok, Err, Option, None, Some, is_some}
use mathlib.Core.Path.{◌≡◌, refl, sym, ap, subst, ◌∙◌}
use mathlib.Core.Bool.{Bool, true, false, not, ◌||◌}
use mathlib.Core.List.{List, [], ◌∷◌, ◌++◌, flat_map, append-nil}
use Prim.Native.Nat.{ℕ, ◌+◌, ◌-◌, ◌≤◌, ◌<◌}
use native.Mathlib.Omega.{arith}
use borrow.Author.Tests.{le-ltb, ltb-false, eq-eqb}
use lib.Dec.{ltb}
use lib.ListN.{length, take, length-append}
use Rattle.answers.specs.declared.Refusal.TheVariants.{FilterShape, FilterLength, NoRoom}
use Rattle.answers.specs.Try.{Try, refused_if}
use Rattle.octets.specs.Buffer.{over}
use Rattle.octets.proofs.Laws.Buffer.{over_front}
use Rattle.octets.specs.Lists.{any, first, unique}
use Rattle.octets.specs.Text.{same, lower}
use Rattle.filter.specs.declared.request.ClauseName.{ClauseName}
use Rattle.filter.specs.declared.request.Request.{Request}
use Rattle.octets.specs.Stretch.{stretch_of}
use Rattle.answers.specs.Written.{written_as, written_octets}
use Rattle.filter.specs.Internal.ClauseNames.{is_same_name}
use Rattle.filter.proofs.Laws.ClauseNames.{clause_by, names-any, same_self}
use Rattle.filter.specs.Request.{Clause, clause_names, clause, octets_of}
use Rattle.filter_position.specs.Filter.{and_tag, filter_limit, one, and_of, clauses_of}
use Rattle.filter_read.specs.Taken.{is_named, as_clause, request_of, request_in}
use Rattle.filter_octets.specs.Octets.{element, equality_for, filter_octets}
use Rattle.filter_write.specs.Write.{filter_for}
use Rattle.filter_write.specs.RoundTrip.{SameClauses, RoundTrip, CallsRoundTrip}
use Rattle.filter_write.proofs.Laws.RoundTrip.Elements.{element-back, contents-back}
use Rattle.filter_write.proofs.Laws.RoundTrip.Clauses.{AllAgain, siblings-back, distinct, none_unknown, none_duplicate, octets-back, some-length}
use Rattle.filter_octets.specs.Internal.Size.{head_size, element_size, contents}
use Rattle.filter_octets.proofs.Laws.Size.{head_bounds, element-length}

module _ (source : List ℕ) (r : Request) where
  abbrev value : ClauseName → Option (List ℕ)
  value name = octets_of source (clause r name)

  -- a clause that is present takes octets
  present_length : (ns : List ClauseName) → any (λ name. is_some (clause r name)) ns ≡ true → 0 < length (contents source r ns)
  unfolding any flat_map
  present_length [] e = let z : ◌≡◌ {A = ℕ} 0 1 = cc in absurd (omega arith)
  present_length (n ∷ ns) e = by (clause r n) e (present_length ns)
    where
      by : (c : Clause) → (is_some c || any (λ name. is_some (clause r name)) ns) ≡ true → (any (λ name. is_some (clause r name)) ns ≡ true → 0 < length (contents source r ns))
          → 0 < length (equality_for n (octets_of source c) ++ contents source r ns)
      by None h rest = rest h
      by (Some t) h rest =
          let l = length-append (equality_for n (octets_of source (Some t))) (contents source r ns) in
          let b = some-length source value n (stretch_of source t) in
          omega arith

  module _ (some-clause : any (λ name. is_some (clause r name)) clause_names ≡ true) (short : length (filter_octets source r) ≤ filter_limit) where
    abbrev s : List ℕ
    s = filter_octets source r

    abbrev inside : List ℕ
    inside = contents source r clause_names

    whole : s ≡ element and_tag inside
    unfolding filter_octets
    whole = refl

    size : length s ≡ element_size (length inside)
    size = ap length whole ∙ element-length and_tag inside

    start : ℕ
    start = 0 + head_size (length inside)

    again : AllAgain s value 3 (start + length inside - start) start (start + length inside) clause_names
    unfolding start
    again =
        let z = size in
        let b = head_bounds (length inside) in
        siblings-back s value 3 clause_names (start + length inside - start) start (start + length inside)
        (contents-back s 0 (length s) and_tag inside [] (whole ∙ sym (append-nil (element and_tag inside))) ∙ append-nil inside)
        refl
        (omega arith)
        (present_length clause_names some-clause)
        (omega arith)

    read : clauses_of s ≡ Some again.clauses
    unfolding clauses_of one and_of start
    read =
        let z = size in
        let b = head_bounds (length inside) in
        let e = element-back s 0 (length s) and_tag inside [] (whole ∙ sym (append-nil (element and_tag inside))) (omega arith) (omega arith) in
        let f : start + length inside ≡ length s = omega arith in
        rw (clauses_of, e, eq-eqb (start + length inside) (length s) f) again.reads

    unique-names : distinct s value clause_names ≡ true
    unfolding unique any same lower
    unique-names = refl

    taken_apart : request_in s ≡ Ok (request_of s again.clauses)
    unfolding request_in
    taken_apart = rw (request_in, le-ltb filter_limit (length s) short, read, none_unknown s value again.tells, none_duplicate s value again.tells unique-names)

    same_clauses : SameClauses s (request_of s again.clauses) source r
    unfolding request_of
    same_clauses name =
        ap (octets_of s) (clause_by (λ n. as_clause (first (is_named s n) again.clauses)) name)
        ∙ octets-back s value name again.tells unique-names (names-any (λ n. is_same_name n name) name (same_self name))

-- an answer that refuses nothing: a clause is present, and the octets are those written, 2,048 at most
answered : (a b c : Bool) (o octets : List ℕ) → refused_if (not a) FilterShape (refused_if b FilterLength (refused_if c NoRoom (Ok o))) ≡ Ok octets → (a ≡ true) × (b ≡ false) × (o ≡ octets)
answered false b c o octets e = let z : ◌≡◌ {A = ℕ} 0 1 = cc in absurd (omega arith)
answered true true c o octets e = let z : ◌≡◌ {A = ℕ} 0 1 = cc in absurd (omega arith)
answered true false true o octets e = let z : ◌≡◌ {A = ℕ} 0 1 = cc in absurd (omega arith)
answered true false false o octets e = (refl, refl, cc)

pub round_trip : RoundTrip
unfolding filter_for
round_trip source r room octets e =
    let a = answered (any (λ name. is_some (clause r name)) clause_names) (ltb filter_limit (length (filter_octets source r))) (ltb room (length (filter_octets source r))) (filter_octets source r) octets e in
    let h : length (filter_octets source r) ≤ filter_limit = ltb-false filter_limit (length (filter_octets source r)) a.1 in
    subst (λ (s : List ℕ). (q : Request) × (request_in s ≡ Ok q) × SameClauses s q source r) a.2
    (request_of (filter_octets source r) (again source r a.0 h).clauses, taken_apart source r a.0 h, same_clauses source r a.0 h)

pub calls_round_trip : CallsRoundTrip
calls_round_trip source r before after w n t wrote laid answer took = by (filter_for source r (length before)) refl
  where
    by : (o : Try (List ℕ)) → filter_for source r (length before) ≡ o → (q : Request) × (t ≡ Ok q) × SameClauses (take n after) q source r
    by (Err x) e =
        let f : ◌≡◌ {A = Try ℕ} (Err x) (Ok n) = sym (ap written_as e) ∙ sym wrote.same ∙ answer in
        let z : ◌≡◌ {A = ℕ} 0 1 = cc in
        absurd (omega arith)
    by (Ok octets) e =
        let f : ◌≡◌ {A = Try ℕ} (Ok (length octets)) (Ok n) = sym (ap written_as e) ∙ sym wrote.same ∙ answer in
        let l : length octets ≡ n = cc in
        let s : take n after ≡ octets = ap (take n) (laid ∙ ap (λ (x : Try (List ℕ)). over (written_octets x) before) e) ∙ over_front octets before n l in
        let g = round_trip source r (length before) octets e in
        (g.0, took.same ∙ ap request_in s ∙ g.1, λ name. ap (λ (x : List ℕ). octets_of x (clause g.0 name)) s ∙ g.2 name)
