-- The clauses of a written filter, found again one after the other, and what document 01 says of them.
use Rattle.std.proofs.Common.{Option, None, Some, is_some}
use mathlib.Core.Path.{◌≡◌, refl, sym, ap, ◌∙◌}
use mathlib.Core.Bool.{Bool, true, false, not, ◌||◌, ◌&&◌}
use mathlib.Core.List.{List, [], ◌∷◌, ◌++◌, flat_map}
use Prim.Native.Nat.{ℕ, zero, suc, ◌+◌, ◌≤◌, ◌<◌}
use native.Mathlib.Decide.{dec_le}
use native.Mathlib.Nat.{not-suc-le-zero}
use native.Mathlib.Omega.{arith}
use borrow.Author.Tests.{eq-eqb, ne_eqb, not-true}
use lib.ListN.{length, drop, length-append}
use Rattle.octets.specs.Lists.{any, first, first_or, unique}
use Rattle.octets.proofs.Laws.Lists.{first_any, any_ext, both_left, both_right, neither_left, neither_right}
use Rattle.octets.specs.Stretch.{stretch_of}
use Rattle.octets.specs.Text.{same_folded}
use Rattle.octets.proofs.Laws.Text.{folded_sym}
use Rattle.filter_position.specs.declared.position.RawClause.{RawClause}
use Rattle.filter.specs.declared.request.ClauseName.{ClauseName}
use Rattle.filter.specs.Internal.ClauseNames.{is_same_name}
use Rattle.filter.proofs.Laws.ClauseNames.{same_self, same-name, names-any}
use Rattle.filter.specs.Request.{clause_names, spelling, octets_of}
use Rattle.filter_position.specs.Filter.{equality_tag, one, siblings, and_of}
use Rattle.filter_read.specs.Taken.{name_octets, is_named, has_unknown, has_duplicate, as_clause}
use Rattle.filter_octets.specs.Octets.{equality_for}
use Rattle.filter_octets.proofs.Laws.Size.{equality-length, head_bounds}
use Rattle.filter_write.proofs.Laws.RoundTrip.Elements.{Again, equality-back, after}

module _ (s : List ℕ) (value : ClauseName → Option (List ℕ)) where
  abbrev pub written : List ClauseName → List ℕ
  written ns = flat_map (λ name. equality_for name (value name)) ns

  -- clauses that were found tell the names that have a value, in order
  pub data Tells : List ClauseName → List RawClause → Type 0 where
    nothing : Tells [] []
    skips : {n : ClauseName} {ns : List ClauseName} {fs : List RawClause} → value n ≡ None → Tells ns fs → Tells (n ∷ ns) fs
    finds : {n : ClauseName} {ns : List ClauseName} {fs : List RawClause} (f : RawClause) (v : List ℕ) → value n ≡ Some v → name_octets s f ≡ spelling n → stretch_of s f.value ≡ v → Tells ns fs → Tells (n ∷ ns) (f ∷ fs)

  -- an equality takes octets
  pub some-length : (n : ClauseName) (v : List ℕ) → 0 < length (equality_for n (Some v))
  some-length n v =
      let l = equality-length n v in
      let b = head_bounds (length (spelling n)) in
      let c = head_bounds (length v) in
      omega arith

  none_left : (ns : List ClauseName) → length (written ns) ≡ 0 → Tells ns []
  unfolding flat_map
  none_left [] e = nothing
  none_left (n ∷ ns) e = by (value n) refl e (none_left ns)
    where
      by : (o : Option (List ℕ)) → value n ≡ o → length (equality_for n o ++ written ns) ≡ 0 → (length (written ns) ≡ 0 → Tells ns []) → Tells (n ∷ ns) []
      by None q l rest = skips q (rest l)
      by (Some v) q l rest =
          let a = length-append (equality_for n (Some v)) (written ns) in
          let b = some-length n v in
          absurd (omega arith)

  -- what is found of the equalities from `at` to the end of the octets
  pub record AllAgain (d k at end : ℕ) (ns : List ClauseName) : Type 0 where
    pub clauses : List RawClause
    pub reads : siblings (and_of d) k s at end ≡ Some clauses
    pub tells : Tells ns clauses

  one_again : (d at end : ℕ) (n : ClauseName) (v : List ℕ) (a : Again s at end n v) → one (and_of d) s a.element ≡ Some (a.clause ∷ [])
  unfolding one
  one_again d at end n v a = rw (one, eq-eqb a.element.tag equality_tag a.tagged, a.reads)

  abbrev Back : ℕ → List ClauseName → Type 0
  Back d ns =
      (k at end : ℕ) → drop at s ≡ written ns → at + length (written ns) ≡ end → end < 65536 → 0 < length (written ns) → length (written ns) ≤ k → AllAgain d k at end ns

  -- one equality, and those after it
  module _ (d : ℕ) (n : ClauseName) (ns : List ClauseName) (v : List ℕ) (q : value n ≡ Some v) where
    abbrev eq : List ℕ
    eq = equality_for n (Some v)

    back_one : Back d ns → (k at end : ℕ) → drop at s ≡ eq ++ written ns → at + length (eq ++ written ns) ≡ end → end < 65536 → length (eq ++ written ns) ≤ k → AllAgain d k at end (n ∷ ns)
    unfolding siblings
    back_one rest zero at end h f below u =
        let l = length-append eq (written ns) in
        let b = some-length n v in
        absurd (omega arith)
    back_one rest (suc k) at end h f below u = by (dec_le 1 (length (written ns)))
      where
        sum : length (eq ++ written ns) ≡ length eq + length (written ns)
        sum = length-append eq (written ns)

        again : Again s at end n v
        again = equality-back s at end n v (written ns) h (omega (arith, sum)) below

        by : Dec (1 ≤ length (written ns)) → AllAgain d (suc k) at end (n ∷ ns)
        by (no none_after) =
            let t = sum in
            let z : length (written ns) ≡ 0 = omega arith in
            let e : again.element.next ≡ end = again.ends ∙ omega arith in
            record {
              clauses = again.clause ∷ [];
              reads = rw (siblings, again.there, one_again d at end n v again, eq-eqb again.element.next end e);
              tells = finds again.clause v q again.named again.valued (none_left ns z);
            }
        by (yes more-after) =
            let t = sum in
            let b = some-length n v in
            let r = rest k (at + length eq) end (after s eq (written ns) at (length eq) h refl) (omega arith) below more-after (omega arith) in
            let e : again.element.next ≡ end → ⊥ = λ p. let x : at + length eq ≡ end = sym again.ends ∙ p in omega arith in
            record {
              clauses = again.clause ∷ r.clauses;
              reads = rw (siblings, again.there, one_again d at end n v again, ne_eqb again.element.next end e, again.ends, r.reads);
              tells = finds again.clause v q again.named again.valued r.tells;
            }

  pub siblings-back : (d : ℕ) (ns : List ClauseName) → Back d ns
  unfolding flat_map
  siblings-back d [] k at end here filled below some-there fuel = absurd (not-suc-le-zero some-there)
  siblings-back d (n ∷ ns) k at end here filled below some-there fuel = by (value n) refl here filled some-there fuel (siblings-back d ns)
    where
      by : (o : Option (List ℕ)) → value n ≡ o → drop at s ≡ equality_for n o ++ written ns → at + length (equality_for n o ++ written ns) ≡ end → 0 < length (equality_for n o ++ written ns) → length (equality_for n o ++ written ns) ≤ k
          → Back d ns → AllAgain d k at end (n ∷ ns)
      by None q h f l u rest = let r = rest k at end h f below l u in record { clauses = r.clauses; reads = r.reads; tells = skips q r.tells }
      by (Some v) q h f l u rest = back_one d n ns v q rest k at end h f below u

  -- what such clauses make: none unknown, none twice, and each name's own octets

  named_as : (m n : ClauseName) (f : RawClause) → name_octets s f ≡ spelling n → is_named s m f ≡ is_same_name n m
  unfolding is_named
  named_as m n f e = ap (λ (x : List ℕ). same_folded x (spelling m)) e

  pub none_unknown : {ns : List ClauseName} {fs : List RawClause} → Tells ns fs → has_unknown s fs ≡ false
  unfolding has_unknown any
  none_unknown nothing = refl
  none_unknown (skips q t) = none_unknown t
  none_unknown (finds {n = n} {fs = fs} f v q e c t) = rw (known) (none_unknown t)
    where
      known : any (λ name. is_named s name f) clause_names ≡ true
      known = names-any (λ name. is_named s name f) n (named_as n n f e ∙ same_self n)

  named_is : (n : ClauseName) (f : RawClause) → same_folded (name_octets s f) (spelling n) ≡ is_named s n f
  unfolding is_named
  named_is n f = refl

  -- a name that is not among those told is not found
  abbrev among : ClauseName → List ClauseName → Bool
  among m ns = any (λ n. is_same_name n m) ns

  absent : (m : ClauseName) {ns : List ClauseName} {fs : List RawClause} → Tells ns fs → among m ns ≡ false → first (is_named s m) fs ≡ None
  unfolding first any
  absent m nothing e = refl
  absent m (skips {n = n} {ns = ns} q t) e = absent m t (neither_right (is_same_name n m) (among m ns) e)
  absent m (finds {n = n} {ns = ns} f v q p c t) e =
      let h : is_named s m f ≡ false = named_as m n f p ∙ neither_left (is_same_name n m) (among m ns) e in
      rw h (absent m t (neither_right (is_same_name n m) (among m ns) e))

  -- each name's octets, where no name stands twice
  abbrev pub distinct : List ClauseName → Bool
  distinct ns = unique (λ n m. is_same_name m n) ns

  module _ (n : ClauseName) (ns : List ClauseName) (a : (not (among n ns) && distinct ns) ≡ true) where
    not_again : among n ns ≡ false
    not_again = not-true (among n ns) (both_left (not (among n ns)) (distinct ns) a)

    rest_distinct : distinct ns ≡ true
    rest_distinct = both_right (not (among n ns)) (distinct ns) a

  pub octets-back : (m : ClauseName) {ns : List ClauseName} {fs : List RawClause} → Tells ns fs → distinct ns ≡ true → among m ns ≡ true → octets_of s (as_clause (first (is_named s m) fs)) ≡ value m
  unfolding first any unique
  octets-back m nothing a e = let z : ◌≡◌ {A = ℕ} 0 1 = cc in absurd (omega arith)
  octets-back m (skips {n = n} {ns = ns} {fs = fs} q t) a e = by (is_same_name n m) refl e (octets-back m t (rest_distinct n ns a))
    where
      by : (b : Bool) → is_same_name n m ≡ b → (b || among m ns) ≡ true → (among m ns ≡ true → octets_of s (as_clause (first (is_named s m) fs)) ≡ value m) → octets_of s (as_clause (first (is_named s m) fs)) ≡ value m
      by true h g rest =
          let i : n ≡ m = same-name n m h in
          let o : first (is_named s m) fs ≡ None = absent m t (ap (λ (k : ClauseName). among k ns) (sym i) ∙ not_again n ns a) in
          ap (λ (x : Option RawClause). octets_of s (as_clause x)) o ∙ sym q ∙ ap value i
      by false h g rest = rest g
  octets-back m (finds {n = n} {ns = ns} {fs = fs} f v q p c t) a e = ap (λ (b : Bool). octets_of s (as_clause (first_or b f (first (is_named s m) fs)))) (named_as m n f p) ∙ by (is_same_name n m) refl e (octets-back m t (rest_distinct n ns a))
    where
      by : (b : Bool) → is_same_name n m ≡ b → (b || among m ns) ≡ true → (among m ns ≡ true → octets_of s (as_clause (first (is_named s m) fs)) ≡ value m) → octets_of s (as_clause (first_or b f (first (is_named s m) fs))) ≡ value m
      by true h g rest = ap Some c ∙ sym q ∙ ap value (same-name n m h)
      by false h g rest = rest g

  pub none_duplicate : {ns : List ClauseName} {fs : List RawClause} → Tells ns fs → distinct ns ≡ true → has_duplicate s fs ≡ false
  unfolding has_duplicate unique
  none_duplicate nothing a = refl
  none_duplicate (skips {n = n} {ns = ns} q t) a = none_duplicate t (rest_distinct n ns a)
  none_duplicate (finds {n = n} {ns = ns} {fs = fs} f v q p c t) a = rw alone-named (none_duplicate t (rest_distinct n ns a))
    where
      alone-named : any (λ h. same_folded (name_octets s f) (name_octets s h)) fs ≡ false
      alone-named =
          any_ext (λ h. same_folded (name_octets s f) (name_octets s h)) (is_named s n) fs (λ h. ap (λ (x : List ℕ). same_folded x (name_octets s h)) p ∙ folded_sym (spelling n) (name_octets s h) ∙ named_is n h)
          ∙ sym (first_any (is_named s n) fs)
          ∙ ap is_some (absent n t (not_again n ns a))
