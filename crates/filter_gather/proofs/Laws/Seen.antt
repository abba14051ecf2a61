-- Laws of what is gathered as numbers: a clause packed and unpacked, and one number stored.
use Rattle.std.proofs.Common.{Option, None, Some, is_some}
use mathlib.Core.Path.{◌≡◌, refl, sym, ap, ◌∙◌}
use mathlib.Core.Bool.{Bool, true, false, cond, not}
use mathlib.Core.List.{List, [], ◌∷◌}
use Prim.Native.Nat.{ℕ, zero, suc, ◌/◌, ◌%◌, ◌<◌, ◌≤◌}
use native.Mathlib.Omega.{arith}
use borrow.Author.Tests.{eq-eqb, ne_eqb}
use lib.Dec.{eqb}
use lib.ListN.{length, get_or, set}
use Rattle.octets.specs.declared.part.Stretch.{Stretch}
use Rattle.octets.specs.Text.{same, lower}
use Rattle.filter.specs.declared.request.ClauseName.{ClauseName}
use Rattle.filter.specs.declared.request.ClauseName.TheVariants.{DnsDomain, Host, DnsHostName, User, Aac, DomainSid, DomainGuid, NtVer}
use Rattle.filter.specs.Internal.ClauseNames.{stored}
use Rattle.filter.specs.Request.{Clause, clause_names, clause}
use Rattle.filter_position.specs.declared.position.RawClause.{RawClause}
use Rattle.octets.specs.Stretch.{stretch_of}
use Rattle.filter_gather.specs.Internal.Gather.{name_spelled, added}
use Rattle.filter_gather.specs.Internal.Seen.{packed, clause_seen, is_seen, place_of, place_as, decoded}

-- a clause packed is unpacked to itself
unpacked : (t : Stretch) → 1 ≤ t.start → t.len < 65536 → clause_seen (packed t) ≡ Some t
unpacked t l h =
    let n : packed t ≡ 0 → ⊥ = λ e. omega arith in
    let q : packed t / 65536 ≡ t.start = omega arith in
    let r : packed t % 65536 ≡ t.len = omega arith in
    rw (ne_eqb (packed t) 0 n) (λ i. Some (record { start = q i; len = r i }))

some_seen : (x : ℕ) → is_some (clause_seen x) ≡ is_seen x
some_seen x = by (eqb x 0)
  where
    seen_if : Bool → Clause
    seen_if b = cond b None (Some (record { start = x / 65536; len = x % 65536 }))

    by : (b : Bool) → is_some (seen_if b) ≡ not b
    by true = refl
    by false = refl

-- eight numbers, one by one
module _ (P : List ℕ → Type 0) (h : (a b c d e f g i : ℕ) → P (a ∷ b ∷ c ∷ d ∷ e ∷ f ∷ g ∷ i ∷ [])) where
  by_eight : (xs : List ℕ) → length xs ≡ 8 → P xs
  by_eight [] l = absurd (omega arith)
  by_eight (a ∷ []) l = absurd (omega arith)
  by_eight (a ∷ b ∷ []) l = absurd (omega arith)
  by_eight (a ∷ b ∷ c ∷ []) l = absurd (omega arith)
  by_eight (a ∷ b ∷ c ∷ d ∷ []) l = absurd (omega arith)
  by_eight (a ∷ b ∷ c ∷ d ∷ e ∷ []) l = absurd (omega arith)
  by_eight (a ∷ b ∷ c ∷ d ∷ e ∷ f ∷ []) l = absurd (omega arith)
  by_eight (a ∷ b ∷ c ∷ d ∷ e ∷ f ∷ g ∷ []) l = absurd (omega arith)
  by_eight (a ∷ b ∷ c ∷ d ∷ e ∷ f ∷ g ∷ i ∷ []) l = h a b c d e f g i
  by_eight (a ∷ b ∷ c ∷ d ∷ e ∷ f ∷ g ∷ i ∷ j ∷ rest) l = absurd (omega arith)

-- one number stored
module _ (u w : Bool) where
  pub clause-at : (xs : List ℕ) (n : ClauseName) → clause (decoded xs u w).request n ≡ clause_seen (get_or xs (place_of n) 0)
  unfolding decoded
  clause-at xs DnsDomain = refl
  clause-at xs Host = refl
  clause-at xs DnsHostName = refl
  clause-at xs User = refl
  clause-at xs Aac = refl
  clause-at xs DomainSid = refl
  clause-at xs DomainGuid = refl
  clause-at xs NtVer = refl

  abbrev Stores : ClauseName → ℕ → List ℕ → Type 0
  Stores n v xs = decoded (set xs (place_of n) v) u w ≡ record { request = stored (decoded xs u w).request n (clause_seen v); unknown = (decoded xs u w).unknown; duplicate = (decoded xs u w).duplicate }

  clause-stored : (n : ClauseName) (v : ℕ) (xs : List ℕ) → length xs ≡ 8 → Stores n v xs
  unfolding decoded same lower
  clause-stored DnsDomain v = by_eight (Stores DnsDomain v) (λ a b c d e f g i. refl)
  clause-stored Host v = by_eight (Stores Host v) (λ a b c d e f g i. refl)
  clause-stored DnsHostName v = by_eight (Stores DnsHostName v) (λ a b c d e f g i. refl)
  clause-stored User v = by_eight (Stores User v) (λ a b c d e f g i. refl)
  clause-stored Aac v = by_eight (Stores Aac v) (λ a b c d e f g i. refl)
  clause-stored DomainSid v = by_eight (Stores DomainSid v) (λ a b c d e f g i. refl)
  clause-stored DomainGuid v = by_eight (Stores DomainGuid v) (λ a b c d e f g i. refl)
  clause-stored NtVer v = by_eight (Stores NtVer v) (λ a b c d e f g i. refl)

-- places and clause names
place_at : (i : ℕ) → i < 8 → place_of (get_or clause_names i DnsDomain) ≡ i
place_at zero h = refl
place_at (suc zero) h = refl
place_at (suc (suc zero)) h = refl
place_at (suc (suc (suc zero))) h = refl
place_at (suc (suc (suc (suc zero)))) h = refl
place_at (suc (suc (suc (suc (suc zero))))) h = refl
place_at (suc (suc (suc (suc (suc (suc zero)))))) h = refl
place_at (suc (suc (suc (suc (suc (suc (suc zero))))))) h = refl
place_at (suc (suc (suc (suc (suc (suc (suc (suc i)))))))) h = absurd (omega arith)

name-at : (n : ClauseName) → get_or clause_names (place_of n) DnsDomain ≡ n
name-at DnsDomain = refl
name-at Host = refl
name-at DnsHostName = refl
name-at User = refl
name-at Aac = refl
name-at DomainSid = refl
name-at DomainGuid = refl
name-at NtVer = refl

place_below : (n : ClauseName) → place_of n < 8
place_below DnsDomain = omega arith
place_below Host = omega arith
place_below DnsHostName = omega arith
place_below User = omega arith
place_below Aac = omega arith
place_below DomainSid = omega arith
place_below DomainGuid = omega arith
place_below NtVer = omega arith

pub place_none : (o : Option ClauseName) → 8 ≤ place_as o → o ≡ None
place_none None h = refl
place_none (Some n) h = absurd (omega (arith, place_below n))

pub place_some : (o : Option ClauseName) → place_as o < 8 → o ≡ Some (get_or clause_names (place_as o) DnsDomain)
place_some None h = absurd (omega arith)
place_some (Some n) h = ap Some (sym (name-at n))

-- the clause at a place, and one stored there
module _ (xs : List ℕ) (u w : Bool) (i : ℕ) (h : i < 8) where
  seen_at : is_some (clause (decoded xs u w).request (get_or clause_names i DnsDomain)) ≡ is_seen (get_or xs i 0)
  seen_at =
      ap is_some (clause-at u w xs (get_or clause_names i DnsDomain))
      ∙ some_seen (get_or xs (place_of (get_or clause_names i DnsDomain)) 0)
      ∙ ap (λ (k : ℕ). is_seen (get_or xs k 0)) (place_at i h)

  stored_at : (t : Stretch) → 1 ≤ t.start → t.len < 65536 → length xs ≡ 8
      → decoded (set xs i (packed t)) u w ≡ record { request = stored (decoded xs u w).request (get_or clause_names i DnsDomain) (Some t); unknown = (decoded xs u w).unknown; duplicate = (decoded xs u w).duplicate }
  stored_at t p q l =
      ap (λ (k : ℕ). decoded (set xs k (packed t)) u w) (sym (place_at i h))
      ∙ clause-stored u w (get_or clause_names i DnsDomain) (packed t) xs l
      ∙ ap (λ (x : Clause). record { request = stored (decoded xs u w).request (get_or clause_names i DnsDomain) x; unknown = (decoded xs u w).unknown; duplicate = (decoded xs u w).duplicate }) (unpacked t p q)

-- one more clause, by the place that its name spells
module _ (s xs : List ℕ) (u w : Bool) (f : RawClause) (k : ℕ) (q : k ≡ place_as (name_spelled (stretch_of s f.name))) where
  unknown_stored : decoded xs true w ≡ record { request = (decoded xs u w).request; unknown = true; duplicate = (decoded xs u w).duplicate }
  unfolding decoded
  unknown_stored = refl

  duplicate_stored : decoded xs u true ≡ record { request = (decoded xs u w).request; unknown = (decoded xs u w).unknown; duplicate = true }
  unfolding decoded
  duplicate_stored = refl

  named : k < 8 → name_spelled (stretch_of s f.name) ≡ Some (get_or clause_names k DnsDomain)
  named h =
      let l : place_as (name_spelled (stretch_of s f.name)) < 8 = omega arith in
      place_some (name_spelled (stretch_of s f.name)) l ∙ ap (λ (i : ℕ). Some (get_or clause_names i DnsDomain)) (sym q)

  pub add_unknown : 8 ≤ k → decoded xs true w ≡ added s (decoded xs u w) f
  unfolding added
  add_unknown h =
      let l : 8 ≤ place_as (name_spelled (stretch_of s f.name)) = omega arith in
      rw (added, place_none (name_spelled (stretch_of s f.name)) l) unknown_stored

  pub add_duplicate : k < 8 → (get_or xs k 0 ≡ 0 → ⊥) → decoded xs u true ≡ added s (decoded xs u w) f
  unfolding added
  add_duplicate h n = rw (added, named h, seen_at xs u w k h ∙ ap not (ne_eqb (get_or xs k 0) 0 n)) duplicate_stored

  pub add_first : k < 8 → get_or xs k 0 ≡ 0 → 1 ≤ f.value.start → f.value.len < 65536 → length xs ≡ 8 → decoded (set xs k (packed f.value)) u w ≡ added s (decoded xs u w) f
  unfolding added
  add_first h z l m n = rw (added, named h, seen_at xs u w k h ∙ ap not (eq-eqb (get_or xs k 0) 0 z)) (stored_at xs u w k h f.value l m n)
