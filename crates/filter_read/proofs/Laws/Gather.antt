-- Laws of gathering: what clauses make, one after the other, is what document 01 says of them as a whole.
use Rattle.std.proofs.Common.{Ok, Option, None, Some, is_some}
use Rattle.std.specs.Option.{option_or}
use mathlib.Core.Path.{◌≡◌, refl, sym, ap, fun_ext, ◌∙◌}
use mathlib.Core.Bool.{Bool, true, false, cond, not, ◌||◌, ◌&&◌, or_assoc, or-true, or-false}
use mathlib.Core.List.{List, [], ◌∷◌}
use Prim.Native.Nat.{ℕ}
use native.Mathlib.Omega.{arith}
use borrow.Author.Tests.{not-false}
use Rattle.answers.specs.declared.Refusal.TheVariants.{UnknownClause, DuplicateClause}
use Rattle.answers.specs.Try.{Try, refused_if}
use Rattle.octets.specs.Lists.{any, first, first_or, unique}
use Rattle.octets.proofs.Laws.Lists.{first_any, first_holds, any_ext, any_either, any_never, neither_left, neither_right}
use Rattle.octets.specs.Text.{same_folded}
use Rattle.octets.proofs.Laws.Text.{folded_left, folded_sym}
use Rattle.filter_position.specs.declared.position.RawClause.{RawClause}
use Rattle.octets.specs.declared.part.Stretch.{Stretch}
use Rattle.filter.specs.declared.request.ClauseName.{ClauseName}
use Rattle.filter.specs.declared.request.Request.{Request}
use Rattle.filter.specs.Internal.ClauseNames.{is_same_name, stored}
use Rattle.filter.specs.Request.{Clause, clause_names, spelling, clause, request_by}
use Rattle.filter.proofs.Laws.ClauseNames.{names_none, same-name, clause_by}
use Rattle.filter_gather.specs.Internal.Gather.{Gathered, Wrong, Good, name_spelled, added_to, added_as, added, all_added, gathered_from, nothing}
use Rattle.filter_read.specs.Taken.{name_octets, is_named, has_unknown, has_duplicate, as_clause, request_of, judged_clauses}

-- the answer that gathered clauses make
abbrev pub answer_of : Gathered → Try Request
answer_of g = refused_if g.unknown UnknownClause (refused_if g.duplicate DuplicateClause (Ok g.request))

-- the name that octets spell is the only one
module _ (x : List ℕ) where
  pub named-one : (m n : ClauseName) → name_spelled x ≡ Some m → same_folded x (spelling n) ≡ is_same_name m n
  unfolding name_spelled
  named-one m n e = folded_left x (spelling m) (spelling n) (first_holds (λ name. same_folded x (spelling name)) clause_names m e)

  pub named_not : (n : ClauseName) → name_spelled x ≡ None → same_folded x (spelling n) ≡ false
  unfolding name_spelled
  named_not n e =
      names_none (λ name. same_folded x (spelling name)) n (sym (first_any (λ name. same_folded x (spelling name)) clause_names) ∙ ap is_some e)

-- 7: one of the clauses is of another name

module _ (s : List ℕ) where
  abbrev name_for : RawClause → Option ClauseName
  name_for f = name_spelled (name_octets s f)

  abbrev is_unknown : RawClause → Bool
  is_unknown f = not (any (λ name. is_named s name f) clause_names)

  unknown_spelled : (f : RawClause) → is_unknown f ≡ not (is_some (name_for f))
  unfolding is_named name_spelled
  unknown_spelled f = ap not (sym (first_any (λ name. same_folded (name_octets s f) (spelling name)) clause_names))

  unknown-one : (g : Gathered) (f : RawClause) → (added s g f).unknown ≡ (g.unknown || is_unknown f)
  unfolding added
  unknown-one g f = by (name_for f) ∙ ap (λ (b : Bool). g.unknown || b) (sym (unknown_spelled f))
    where
      kept : (n : ClauseName) (b : Bool) → (added_to g n f b).unknown ≡ (g.unknown || false)
      kept n true = sym (or-false g.unknown)
      kept n false = sym (or-false g.unknown)

      by : (o : Option ClauseName) → (added_as g f o).unknown ≡ (g.unknown || not (is_some o))
      by None = sym (or-true g.unknown)
      by (Some n) = kept n (is_some (clause g.request n))

  pub all-unknown : (g : Gathered) (fs : List RawClause) → (all_added s g fs).unknown ≡ (g.unknown || has_unknown s fs)
  unfolding all_added has_unknown any
  all-unknown g [] = sym (or-false g.unknown)
  all-unknown g (f ∷ fs) =
      all-unknown (added s g f) fs
      ∙ ap (λ (b : Bool). b || has_unknown s fs) (unknown-one g f)
      ∙ or_assoc g.unknown (is_unknown f) (has_unknown s fs)

-- the request: the first clause of each name

absent_not : (c d : Clause) → is_some c ≡ false → option_or c d ≡ d
absent_not None d e = refl
absent_not (Some t) d e = let z : ◌≡◌ {A = ℕ} 0 1 = cc in absurd (omega arith)

present_is : (c d : Clause) → is_some c ≡ true → option_or c d ≡ c
present_is None d e = let z : ◌≡◌ {A = ℕ} 0 1 = cc in absurd (omega arith)
present_is (Some t) d e = refl

module _ (s : List ℕ) (n : ClauseName) where
  abbrev first_one : List RawClause → Clause
  first_one fs = as_clause (first (is_named s n) fs)

  request-one : (g : Gathered) (f : RawClause) (fs : List RawClause) → option_or (clause (added s g f).request n) (first_one fs) ≡ option_or (clause g.request n) (first_one (f ∷ fs))
  unfolding added first is_named
  request-one g f fs = by (name_spelled (name_octets s f)) refl
    where
      rest : Bool → Clause
      rest b = as_clause (first_or b f (first (is_named s n) fs))

      again : (m : ClauseName) (b : Bool) → is_same_name m n ≡ b → is_some (clause g.request m) ≡ true → option_or (clause g.request n) (first_one fs) ≡ option_or (clause g.request n) (rest b)
      again m true e i =
          let j : is_some (clause g.request n) ≡ true = ap (λ (k : ClauseName). is_some (clause g.request k)) (sym (same-name m n e)) ∙ i in
          present_is (clause g.request n) (first_one fs) j ∙ sym (present_is (clause g.request n) (rest true) j)
      again m false e i = refl

      fresh : (m : ClauseName) (b : Bool) → is_same_name m n ≡ b → is_some (clause g.request m) ≡ false
          → option_or (cond b (Some f.value) (clause g.request n)) (first_one fs) ≡ option_or (clause g.request n) (rest b)
      fresh m true e i =
          let j : is_some (clause g.request n) ≡ false = ap (λ (k : ClauseName). is_some (clause g.request k)) (sym (same-name m n e)) ∙ i in
          sym (absent_not (clause g.request n) (rest true) j)
      fresh m false e i = refl

      here : (m : ClauseName) (b : Bool) → is_some (clause g.request m) ≡ b → option_or (clause (added_to g m f b).request n) (first_one fs) ≡ option_or (clause g.request n) (rest (is_same_name m n))
      here m true i = again m (is_same_name m n) refl i
      here m false i =
          ap (λ (c : Clause). option_or c (first_one fs)) (clause_by (λ other. cond (is_same_name m other) (Some f.value) (clause g.request other)) n)
          ∙ fresh m (is_same_name m n) refl i

      by : (o : Option ClauseName) → name_spelled (name_octets s f) ≡ o → option_or (clause (added_as g f o).request n) (first_one fs) ≡ option_or (clause g.request n) (rest (same_folded (name_octets s f) (spelling n)))
      by None e = ap (λ (b : Bool). option_or (clause g.request n) (rest b)) (sym (named_not (name_octets s f) n e))
      by (Some m) e = here m (is_some (clause g.request m)) refl ∙ ap (λ (b : Bool). option_or (clause g.request n) (rest b)) (sym (named-one (name_octets s f) m n e))

  pub all-request : (g : Gathered) (fs : List RawClause) → clause (all_added s g fs).request n ≡ option_or (clause g.request n) (first_one fs)
  unfolding all_added first
  all-request g [] = sym (or_absent (clause g.request n))
    where
      or_absent : (c : Clause) → option_or c None ≡ c
      or_absent None = refl
      or_absent (Some t) = refl
  all-request g (f ∷ fs) = all-request (added s g f) fs ∙ request-one g f fs

-- 8: a clause whose name is there already, where each clause is of a name

module _ (s : List ℕ) where
  abbrev there_in : Request → Option ClauseName → Bool
  there_in r None = false
  there_in r (Some n) = is_some (clause r n)

  abbrev there : Request → RawClause → Bool
  there r f = there_in r (name_spelled (name_octets s f))

  abbrev same_name : RawClause → RawClause → Bool
  same_name f h = same_folded (name_octets s f) (name_octets s h)

  -- after a clause of name m is stored, the names there are those before and m
  stored_there : (r : Request) (m : ClauseName) (t : Stretch) (f h : RawClause) → name_spelled (name_octets s f) ≡ Some m → there (stored r m (Some t)) h ≡ (there r h || same_name f h)
  unfolding name_spelled
  stored_there r m t f h e = by (name_spelled (name_octets s h)) refl ∙ ap (λ (b : Bool). there r h || b) (sym like)
    where
      like : same_name f h ≡ same_folded (name_octets s h) (spelling m)
      like = folded_left (name_octets s f) (spelling m) (name_octets s h) (first_holds (λ name. same_folded (name_octets s f) (spelling name)) clause_names m e) ∙ folded_sym (spelling m) (name_octets s h)

      set : (n : ClauseName) (b : Bool) → is_some (cond b (Some t) (clause r n)) ≡ (is_some (clause r n) || b)
      set n true = sym (or-true (is_some (clause r n)))
      set n false = sym (or-false (is_some (clause r n)))

      by : (o : Option ClauseName) → name_spelled (name_octets s h) ≡ o → there_in (stored r m (Some t)) o ≡ (there_in r o || same_folded (name_octets s h) (spelling m))
      by None q = sym (named_not (name_octets s h) m q)
      by (Some n) q =
          ap is_some (clause_by (λ other. cond (is_same_name m other) (Some t) (clause r other)) n)
          ∙ set n (is_same_name m n)
          ∙ ap (λ (b : Bool). is_some (clause r n) || b) (folded_sym (spelling m) (spelling n) ∙ sym (named-one (name_octets s h) n m q))

  duplicate-more : (f : RawClause) (fs : List RawClause) → has_duplicate s (f ∷ fs) ≡ (any (same_name f) fs || has_duplicate s fs)
  unfolding has_duplicate unique
  duplicate-more f fs = by (any (same_name f) fs) (unique same_name fs)
    where
      by : (a b : Bool) → not (not a && b) ≡ (a || not b)
      by true b = refl
      by false b = refl

  -- one clause more, of name m
  duplicate-one : (g : Gathered) (f : RawClause) (fs : List RawClause) (m : ClauseName) → name_spelled (name_octets s f) ≡ Some m → (b : Bool) → is_some (clause g.request m) ≡ b
      → ((added_to g m f b).duplicate || (any (there (added_to g m f b).request) fs || has_duplicate s fs)) ≡ (g.duplicate || ((b || any (there g.request) fs) || (any (same_name f) fs || has_duplicate s fs)))
  duplicate-one g f fs m q true i = sym (or-true g.duplicate)
  duplicate-one g f fs m q false i =
      let a : any (there (stored g.request m (Some f.value))) fs ≡ (any (there g.request) fs || any (same_name f) fs) =
      any_ext (there (stored g.request m (Some f.value))) (λ h. there g.request h || same_name f h) fs (λ h. stored_there g.request m f.value f h q)
      ∙ sym (any_either (there g.request) (same_name f) fs) in
      ap (λ (x : Bool). g.duplicate || (x || has_duplicate s fs)) a ∙ ap (λ (x : Bool). g.duplicate || x) (or_assoc (any (there g.request) fs) (any (same_name f) fs) (has_duplicate s fs))

  pub all-duplicate : (g : Gathered) (fs : List RawClause) → has_unknown s fs ≡ false → (all_added s g fs).duplicate ≡ (g.duplicate || (any (there g.request) fs || has_duplicate s fs))
  unfolding all_added added has_unknown has_duplicate any unique
  all-duplicate g [] e = sym (or-false g.duplicate)
  all-duplicate g (f ∷ fs) e = by (name_spelled (name_octets s f)) refl (all-duplicate (added s g f) fs (neither_right (is_unknown s f) (has_unknown s fs) e))
    where
      known : is_some (name_spelled (name_octets s f)) ≡ true
      known = not-false (is_some (name_spelled (name_octets s f))) (sym (unknown_spelled s f) ∙ neither_left (is_unknown s f) (has_unknown s fs) e)

      by : (o : Option ClauseName) → name_spelled (name_octets s f) ≡ o
          → (all_added s (added s g f) fs).duplicate ≡ ((added s g f).duplicate || (any (there (added s g f).request) fs || has_duplicate s fs))
          → (all_added s (added s g f) fs).duplicate ≡ (g.duplicate || ((there g.request f || any (there g.request) fs) || has_duplicate s (f ∷ fs)))
      by None q ih = let z : false ≡ true = ap is_some (sym q) ∙ known in let y : ◌≡◌ {A = ℕ} 0 1 = cc in absurd (omega arith)
      by (Some m) q ih =
          ih
          ∙ ap (λ (o : Option ClauseName). (added_as g f o).duplicate || (any (there (added_as g f o).request) fs || has_duplicate s fs)) q
          ∙ duplicate-one g f fs m q (is_some (clause g.request m)) refl
          ∙ ap (λ (b : Bool). g.duplicate || ((there_in g.request (Some m) || any (there g.request) fs) || b)) (sym (duplicate-more f fs))
          ∙ ap (λ (o : Option ClauseName). g.duplicate || ((there_in g.request o || any (there g.request) fs) || has_duplicate s (f ∷ fs))) (sym q)

-- gathered from nothing, clauses make what document 01 says of them
pub gathers : (s : List ℕ) (fs : List RawClause) → answer_of (all_added s nothing fs) ≡ judged_clauses s (Some fs)
unfolding request_of
gathers s fs = by_unknown (has_unknown s fs) refl
  where
    none_there : any (there s nothing.request) fs ≡ false
    none_there = any_ext (there s nothing.request) (λ f. false) fs (λ f. absent-all (name_spelled (name_octets s f))) ∙ any_never fs
      where
        absent-all : (o : Option ClauseName) → there_in s nothing.request o ≡ false
        absent-all None = refl
        absent-all (Some n) = ap is_some (clause_by (λ name. None) n)

    made : (all_added s nothing fs).request ≡ request_of s fs
    made = ap request_by (fun_ext (λ n. all-request s n nothing fs ∙ ap (λ (c : Clause). option_or c (first_one s n fs)) (clause_by (λ name. None) n)))

    by_unknown : (b : Bool) → has_unknown s fs ≡ b → answer_of (all_added s nothing fs) ≡ judged_clauses s (Some fs)
    by_unknown true e =
        let h : (all_added s nothing fs).unknown ≡ true = all-unknown s nothing fs ∙ e in
        rw (h, e)
    by_unknown false e =
        let h : (all_added s nothing fs).unknown ≡ false = all-unknown s nothing fs ∙ e in
        let w : (all_added s nothing fs).duplicate ≡ has_duplicate s fs = all-duplicate s nothing fs e ∙ ap (λ (b : Bool). b || has_duplicate s fs) none_there in
        rw (h, e, w, made)

pub gathered_none : (s : List ℕ) (o : Option (List RawClause)) → gathered_from s nothing o ≡ Wrong → o ≡ None
gathered_none s None e = refl
gathered_none s (Some fs) e = let z : ◌≡◌ {A = ℕ} 0 1 = cc in absurd (omega arith)

pub gathered_some : (s : List ℕ) (o : Option (List RawClause)) (g : Gathered) → gathered_from s nothing o ≡ Good g → judged_clauses s o ≡ answer_of g
gathered_some s None g e = let z : ◌≡◌ {A = ℕ} 0 1 = cc in absurd (omega arith)
gathered_some s (Some fs) g e = let h : all_added s nothing fs ≡ g = cc in sym (gathers s fs) ∙ ap answer_of h
