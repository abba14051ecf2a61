-- Laws of names told by their length, and then letter by letter.
use Rattle.std.proofs.Common.{Option, None}
use mathlib.Core.Path.{◌≡◌, refl, sym, ap, ap₂, fun_ext, ◌∙◌}
use mathlib.Core.Bool.{Bool, true, false, cond, ◌&&◌}
use mathlib.Core.List.{List, [], ◌∷◌, map}
use Prim.Native.Nat.{ℕ, ◌+◌, ◌≤◌, ◌<◌}
use native.Mathlib.Omega.{arith}
use borrow.Author.Tests.{eqb-false, ne_eqb}
use lib.Dec.{eqb}
use lib.ListN.{length, get_or, length-map, drop, drop_of_length-le}
use lib.Seq.{take_all, drop-cons}
use native.Mathlib.Numerals.{add-one}
use Rattle.octets.specs.Lists.{first, first_or, cut}
use Rattle.octets.proofs.Laws.Lists.{cut-cons, cut-length}
use Rattle.octets.specs.Text.{same, lower, same_folded}
use Rattle.octets.proofs.Laws.Text.{same_lengths}
use Rattle.filter.specs.declared.request.ClauseName.{ClauseName}
use Rattle.filter.specs.declared.request.ClauseName.TheVariants.{DnsDomain, Host, DnsHostName, User, Aac, DomainSid, DomainGuid, NtVer}
use Rattle.filter.specs.Request.{clause_names, spelling}
use Rattle.filter_gather.specs.Internal.Gather.{name_spelled}
use Rattle.filter_gather.specs.Internal.Letters.{letters_at, small_letters}
use Rattle.filter_gather.specs.Internal.Seen.{place_of, place_as}

-- letters of a stretch, and letter after letter
pub letters-cut : (s w : List ℕ) (at : ℕ) → at + length w ≤ length s → same (map lower (cut s at (length w))) w ≡ letters_at s at w
unfolding same letters_at
letters-cut s [] at h = refl
letters-cut s (x ∷ w) at h =
    let l : at < length s = omega arith in
    rw (cut-cons s at (length w) 0 l) (ap (λ (b : Bool). eqb (lower (get_or s at 0)) x && b) (letters-cut s w (at + 1) (omega arith)))

pub letters_next : (s w : List ℕ) (at i : ℕ) → i < length w
    → letters_at s (at + i) (drop i w) ≡ (eqb (lower (get_or s (at + i) 0)) (get_or w i 0) && letters_at s (at + (i + 1)) (drop (i + 1) w))
unfolding letters_at
letters_next s w at i h =
    let e : at + i + 1 ≡ at + (i + 1) = omega arith in
    let d : drop i w ≡ get_or w i 0 ∷ drop (i + 1) w = rw (add-one) (drop-cons w i 0 h) in
    ap (letters_at s (at + i)) d ∙ ap (λ (k : ℕ). eqb (lower (get_or s (at + i) 0)) (get_or w i 0) && letters_at s k (drop (i + 1) w)) e

pub letters_done : (s w : List ℕ) (at i : ℕ) → length w ≤ i → letters_at s (at + i) (drop i w) ≡ true
unfolding letters_at
letters_done s w at i h = ap (letters_at s (at + i)) (drop_of_length-le w h)

-- the octets of a whole slice
pub spelled_whole : (s : List ℕ) → place_as (name_spelled (cut s 0 (length s))) ≡ place_as (name_spelled s)
spelled_whole s = ap (λ (x : List ℕ). place_as (name_spelled x)) (take_all (length s) s (omega arith))

-- only the names of a length are spelled by as many octets
pub spelled_length : (x : List ℕ) (k : ℕ) → length x ≡ k → name_spelled x ≡ first (λ name. eqb (length (spelling name)) k && same_folded x (spelling name)) clause_names
unfolding name_spelled
spelled_length x k e = ap (λ (p : ClauseName → Bool). first p clause_names) (fun_ext (λ name. by name (eqb (length (spelling name)) k) refl))
  where
    by : (name : ClauseName) (b : Bool) → eqb (length (spelling name)) k ≡ b → same_folded x (spelling name) ≡ (b && same_folded x (spelling name))
    by name true q = refl
    by name false q = same_lengths (map lower x) (map lower (spelling name)) (λ l. eqb-false (length (spelling name)) k q (sym (simp length-map at l) ∙ e))

-- the place of the name, by the letters of the names of that length
place_first : (b : Bool) (name : ClauseName) (o : Option ClauseName) → place_as (first_or b name o) ≡ cond b (place_of name) (place_as o)
place_first true name o = refl
place_first false name o = refl

module _ (s : List ℕ) (at len : ℕ) (h : at + len ≤ length s) where
  by_length : (k : ℕ) → len ≡ k → name_spelled (cut s at len) ≡ first (λ name. eqb (length (spelling name)) k && same_folded (cut s at k) (spelling name)) clause_names
  by_length k e =
      let g : at + k ≤ length s = omega arith in
      ap (λ (n : ℕ). name_spelled (cut s at n)) e ∙ spelled_length (cut s at k) k (cut-length s at k g)

  abbrev placed : ℕ
  placed = place_as (name_spelled (cut s at len))

  abbrev spells : ClauseName → Bool
  spells name = letters_at s at (small_letters name)

  -- one name of its length, or two
  only : (name : ClauseName) → len ≡ length (small_letters name) → name_spelled (cut s at len) ≡ first_or (same_folded (cut s at (length (small_letters name))) (spelling name)) name None → placed ≡ cond (spells name) (place_of name) 8
  only name e q =
      ap place_as (q ∙ ap (λ (b : Bool). first_or b name None) (letters-cut s (small_letters name) at (omega arith)))
      ∙ place_first (spells name) name None

  either : (m n : ClauseName) → len ≡ length (small_letters m) → len ≡ length (small_letters n)
      → name_spelled (cut s at len) ≡ first_or (same_folded (cut s at (length (small_letters m))) (spelling m)) m (first_or (same_folded (cut s at (length (small_letters n))) (spelling n)) n None)
      → placed ≡ cond (spells m) (place_of m) (cond (spells n) (place_of n) 8)
  either m n e l q =
      ap place_as (q ∙ ap₂ (λ (a b : Bool). first_or a m (first_or b n None)) (letters-cut s (small_letters m) at (omega arith)) (letters-cut s (small_letters n) at (omega arith)))
      ∙ place_first (spells m) m (first_or (spells n) n None)
      ∙ ap (cond (spells m) (place_of m)) (place_first (spells n) n None)

  pub placed_3 : len ≡ 3 → placed ≡ cond (spells Aac) 4 8
  unfolding first
  placed_3 e = only Aac e (by_length 3 e)

  pub placed_4 : len ≡ 4 → placed ≡ cond (spells Host) 1 (cond (spells User) 3 8)
  unfolding first
  placed_4 e = either Host User e e (by_length 4 e)

  pub placed_5 : len ≡ 5 → placed ≡ cond (spells NtVer) 7 8
  unfolding first
  placed_5 e = only NtVer e (by_length 5 e)

  pub placed_9 : len ≡ 9 → placed ≡ cond (spells DnsDomain) 0 (cond (spells DomainSid) 5 8)
  unfolding first
  placed_9 e = either DnsDomain DomainSid e e (by_length 9 e)

  pub placed_10 : len ≡ 10 → placed ≡ cond (spells DomainGuid) 6 8
  unfolding first
  placed_10 e = only DomainGuid e (by_length 10 e)

  pub placed_11 : len ≡ 11 → placed ≡ cond (spells DnsHostName) 2 8
  unfolding first
  placed_11 e = only DnsHostName e (by_length 11 e)

  pub placed_none : (len ≡ 3 → ⊥) → (len ≡ 4 → ⊥) → (len ≡ 5 → ⊥) → (len ≡ 9 → ⊥) → (len ≡ 10 → ⊥) → (len ≡ 11 → ⊥) → placed ≡ 8
  unfolding first
  placed_none n3 n4 n5 n9 n10 n11 =
      ap place_as (by_length len refl)
      ∙ rw (ne_eqb 9 len (λ e. n9 (sym e)), ne_eqb 4 len (λ e. n4 (sym e)), ne_eqb 11 len (λ e. n11 (sym e)), ne_eqb 3 len (λ e. n3 (sym e)), ne_eqb 10 len (λ e. n10 (sym e)), ne_eqb 5 len (λ e. n5 (sym e)))
