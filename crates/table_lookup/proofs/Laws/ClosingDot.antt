-- A context is found by its own name; a dot that closes a name is not compared; a dot that is left finds nothing, as no name of a table ends in one.
use Rattle.std.proofs.Common.{Ok, Option, None, Some, is_some}
use mathlib.Core.Path.{◌≡◌, refl, sym, ap, subst, ◌∙◌}
use mathlib.Core.Bool.{Bool, true, false, cond, not, ◌&&◌, false≢true}
use mathlib.Core.List.{List, [], ◌∷◌, ◌++◌, map, append_assoc}
use Prim.Native.Nat.{ℕ, ◌+◌, ◌≤◌}
use native.Mathlib.Omega.{arith}
use lib.Dec.{eqb, leb}
use lib.ListN.{length}
use borrow.Author.Tests.{eqb-true, ne_eqb, leb-true, not-true}
use Rattle.octets.proofs.Laws.Label.{Plain, no_closing_dot}
use Rattle.octets.proofs.Laws.Lists.{Every, every_weaken, none_any, first_any, both_left, both_right}
use Rattle.octets.proofs.Laws.Text.{same_self}
use Rattle.octets.specs.Label.{labels}
use Rattle.octets.specs.Lists.{any, first, unique}
use Rattle.octets.specs.Text.{same, lower}
use Rattle.table.specs.Context.{Context}
use Rattle.table.specs.Countings.{same_context}
use Rattle.table.specs.SameName.{same_sid, same_dns_name}
use Rattle.table.specs.Table.{Table}
use Rattle.table_find.specs.Find.{name_compared, is_named_by}
use Rattle.table_find.proofs.Laws.Find.{compared-ends, compared_undotted}
use Rattle.table_whole.specs.Judgement.{table_in}
use Rattle.table_whole.specs.Whole.{contexts_unique}
use Rattle.table_whole.proofs.Laws.Judgement.{GoodContext, GoodTable, judged-good, judged-whole}
use Rattle.table_lookup.specs.Lookup.{context_by_dns_name}
use Rattle.table_lookup.specs.NearestSubnet.{Among}
use Rattle.table_lookup.specs.ClosingDot.{ClosingDot}
use Rattle.table_lookup.proofs.Laws.NearestSubnet.{every_among, any-among}

-- ---- a context's own name

-- of those that are unique, each is the first that is like itself
first_alike : {A : Type 0} (alike : A → A → Bool) (x : A) → alike x x ≡ true → (xs : List A) → unique alike xs ≡ true → Among x xs → first (λ y. alike y x) xs ≡ Some x
unfolding first unique
first_alike {A} alike x own xs u a = subst (λ (ys : List A). first (λ y. alike y x) ys ≡ Some x) (sym a.stands) (go a.before (subst (λ (ys : List A). unique alike ys ≡ true) a.stands u))
  where
    go : (before : List A) → unique alike (before ++ (x ∷ a.behind)) ≡ true → first (λ y. alike y x) (before ++ (x ∷ a.behind)) ≡ Some x
    go [] e = rw own
    go (y ∷ before) e =
        let rest : List A = before ++ (x ∷ a.behind) in
        let others : any (alike y) rest ≡ false = not-true (any (alike y) rest) (both_left (not (any (alike y) rest)) (unique alike rest) e) in
        let other : alike y x ≡ false = any-among (alike y) rest x others (record { before = before; behind = a.behind; stands = refl }) in
        rw other (go before (both_right (not (any (alike y) rest)) (unique alike rest) e))

-- a text that is not empty has a last octet
record Ends (s : List ℕ) : Type 0 where
  front : List ℕ
  last : ℕ
  joins : s ≡ front ++ (last ∷ [])

ends : (s : List ℕ) → 1 ≤ length s → Ends s
ends [] h = absurd (omega arith)
ends (x ∷ []) h = record { front = []; last = x; joins = refl }
ends (x ∷ y ∷ s) h = let r = ends (y ∷ s) (omega arith) in record { front = x ∷ r.front; last = r.last; joins = ap (λ (z : List ℕ). x ∷ z) r.joins }

-- that of a context's name is no dot
last_undotted : (c : Context) → GoodContext c → (r : Ends c.dns) → r.last ≡ 46 → ⊥
last_undotted c ok r e = no_closing_dot r.front (subst (λ (s : List ℕ). Plain (labels s)) (r.joins ∙ ap (λ (x : ℕ). r.front ++ (x ∷ [])) e) ok.dns.plain)

module _ (image : List ℕ) (t : Table) (e : table_in image ≡ Ok t) (c : Context) (there : Among c t.contexts) where
  sound : GoodContext c
  sound = every_among GoodContext t.contexts c (judged-good image t e).contexts there

  names_apart : unique (λ c d. same_dns_name c.dns d.dns) t.contexts ≡ true
  unfolding contexts_unique
  names_apart =
      let others : Bool = unique (λ c d. same_context c.number d.number) t.contexts && unique (λ c d. same c.guid d.guid) t.contexts && unique (λ c d. same_sid c.sid d.sid) t.contexts in
      both_right others (unique (λ c d. same_dns_name c.dns d.dns) t.contexts) (judged-whole image t e).contexts

  own_name : context_by_dns_name t c.dns ≡ Some c
  unfolding context_by_dns_name is_named_by same_dns_name
  own_name =
      let r = ends c.dns sound.filled in
      let kept : name_compared c.dns ≡ c.dns = subst (λ (s : List ℕ). name_compared s ≡ s) (sym r.joins) (compared_undotted r.front r.last (ne_eqb r.last 46 (last_undotted c sound r))) in
      ap (λ (s : List ℕ). first (λ d. same_dns_name d.dns s) t.contexts) kept
      ∙ first_alike (λ d k. same_dns_name d.dns k.dns) c (same_self (map lower c.dns)) t.contexts names_apart there

-- ---- a closing dot

-- only a dot folds to a dot
folded_dot : (x : ℕ) → lower x ≡ 46 → x ≡ 46
unfolding lower
folded_dot x e = go (leb 65 x) refl (leb x 90) e
  where
    go : (a : Bool) → leb 65 x ≡ a → (b : Bool) → cond (a && b) (x + 32) x ≡ 46 → x ≡ 46
    go true q true e = let n : 65 ≤ x = leb-true 65 x q in omega arith
    go true q false e = e
    go false q b e = e

-- a text that is the same as one that ends in a dot ends in one
ends_too : (xs k : List ℕ) → same (map lower xs) (map lower (k ++ (46 ∷ []))) ≡ true → (m : List ℕ) × (xs ≡ m ++ (46 ∷ []))
unfolding same lower
ends_too [] [] e = absurd (false≢true e)
ends_too [] (y ∷ k) e = absurd (false≢true e)
ends_too (x ∷ []) [] e = ([], ap (λ (z : ℕ). z ∷ []) (folded_dot x (eqb-true (lower x) 46 (both_left (eqb (lower x) 46) true e))))
ends_too (x ∷ z ∷ xs) [] e = absurd (false≢true (both_right (eqb (lower x) 46) false e))
ends_too (x ∷ xs) (y ∷ k) e =
    let r = ends_too xs k (both_right (eqb (lower x) (lower y)) _ e) in
    (x ∷ r.0, ap (λ (z : List ℕ). x ∷ z) r.1)

unnamed : (k : List ℕ) (c : Context) → GoodContext c → same_dns_name c.dns (k ++ (46 ∷ [])) ≡ false
unfolding same_dns_name
unnamed k c ok = go (same_dns_name c.dns (k ++ (46 ∷ []))) refl
  where
    go : (b : Bool) → same_dns_name c.dns (k ++ (46 ∷ [])) ≡ b → b ≡ false
    go false q = refl
    go true q =
        let r = ends_too c.dns k q in
        absurd (no_closing_dot r.0 (subst (λ (s : List ℕ). Plain (labels s)) r.1 ok.dns.plain))

is_none : {A : Type 0} (o : Option A) → is_some o ≡ false → o ≡ None
is_none None e = refl
is_none (Some x) e = absurd (false≢true (sym e))

two-behind : (m : List ℕ) → m ++ (46 ∷ 46 ∷ []) ≡ m ++ (46 ∷ []) ++ (46 ∷ [])
two-behind [] = refl
two-behind (x ∷ m) = ap (λ (s : List ℕ). x ∷ s) (two-behind m)

module _ (t : Table) (ok : GoodTable t) where
  -- a value that is compared with a dot at its end finds no context
  dotted : (asked k : List ℕ) → name_compared asked ≡ k ++ (46 ∷ []) → context_by_dns_name t asked ≡ None
  unfolding context_by_dns_name is_named_by
  dotted asked k e =
      let unfound : Every (λ c. same_dns_name c.dns (name_compared asked) ≡ false) t.contexts =
      every_weaken GoodContext (λ c. same_dns_name c.dns (name_compared asked) ≡ false) (λ c g. ap (same_dns_name c.dns) e ∙ unnamed k c g) t.contexts ok.contexts in
      is_none (first (is_named_by asked) t.contexts) (first_any (is_named_by asked) t.contexts ∙ none_any (is_named_by asked) t.contexts unfound)

pub closing_dot : ClosingDot
unfolding context_by_dns_name is_named_by name_compared
closing_dot image t e =
    let ok = judged-good image t e in
    let find : List ℕ → Option Context = λ s. first (λ c. same_dns_name c.dns s) t.contexts in
    let one : (m : List ℕ) (x : ℕ) → (x ≡ 46 → ⊥) → context_by_dns_name t (m ++ (x ∷ 46 ∷ [])) ≡ context_by_dns_name t (m ++ (x ∷ [])) =
    λ m x n. let q : eqb x 46 ≡ false = ne_eqb x 46 n in ap find (compared-ends m x 46 ∙ rw q refl ∙ sym (compared_undotted m x q)) in
    record {
      own = own_name image t e;
      closed =
          λ c a. let r = ends c.dns (sound image t e c a).filled in
          ap (λ (s : List ℕ). context_by_dns_name t (s ++ (46 ∷ []))) r.joins
          ∙ ap (context_by_dns_name t) (append_assoc r.front (r.last ∷ []) (46 ∷ []))
          ∙ one r.front r.last (last_undotted c (sound image t e c a) r)
          ∙ ap (context_by_dns_name t) (sym r.joins)
          ∙ own_name image t e c a;
      one = one;
      alone = dotted t ok (46 ∷ []) [] refl;
      two = λ m. dotted t ok (m ++ (46 ∷ 46 ∷ [])) (m ++ (46 ∷ [])) (compared-ends m 46 46 ∙ two-behind m);
    }
