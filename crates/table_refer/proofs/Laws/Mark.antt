-- Laws of marks: one more number marked, and what a mark says of the numbers after it.
use mathlib.Core.Path.{◌≡◌, refl, sym, ap, ap₂, ◌∙◌, subst, fun_ext}
use mathlib.Core.Bool.{Bool, true, false, ◌||◌}
use mathlib.Core.List.{List, [], ◌∷◌}
use Prim.Native.Nat.{ℕ, zero, suc, ◌+◌, ◌-◌, ◌*◌, ◌/◌, ◌%◌, ◌^◌, ◌<◌, ◌≤◌}
use native.Mathlib.Nat.{div-eq_of_lt, mod-lt, one-mul, div-add-mod'}
use native.Mathlib.Numerals.{add-one}
use native.Mathlib.Omega.{arith}
use lib.Bits.{bit_or, or_shr, or_mod, or_zero_r, shifted_even}
use lib.Dec.{eqb, ltb}
use lib.ListN.{length, get_or, drop, set, replicate, length-set}
use lib.Pow.{pow-lt, pow-add, shl-shr, pow_pos}
use lib.Seq.{drop-cons, drop-length, get_or-set_same, get_or-set_other}
use borrow.Author.Tests.{eqb-true, eqb-false, ltb-true, ltb-false}
use Rattle.octets.specs.Lists.{any, unique}
use Rattle.octets.proofs.Laws.Text.{eqb_comm}
use Rattle.octets.proofs.Laws.Lists.{unique_fails, unique-next, unique_part}
use Rattle.table.specs.declared.SiteNumber.{SiteNumber}
use Rattle.table.specs.Countings.{same_site_lem}
use Rattle.table_refer.specs.declared.mark.Marks.{Marks}
use Rattle.table_refer.specs.Internal.Mark.{no_marks, is_marked, with_mark, number_at, same_site_at, Marked, Seen}

-- the bit at j of a number that has one bit, at i
bit_same : (i : ℕ) → 2 ^ i / 2 ^ i % 2 ≡ 1
bit_same i = ap (λ (x : ℕ). x % 2) (ap (λ (x : ℕ). x / 2 ^ i) (sym (one-mul (2 ^ i))) ∙ shl-shr 1 i)

bit_other : (i j : ℕ) → (i ≡ j → ⊥) → 2 ^ i / 2 ^ j % 2 ≡ 0
bit_other i j n = go (ltb i j) refl
  where
    go : (b : Bool) → ltb i j ≡ b → 2 ^ i / 2 ^ j % 2 ≡ 0
    go true e = ap (λ (x : ℕ). x % 2) (div-eq_of_lt (pow-lt (ltb-true i j e)))
    go false e =
        let k : j ≤ i = ltb-false i j e in
        let d : ℕ = i - j - 1 in
        let above : i ≡ suc d + j = omega (arith, n) in
        let powers : 2 ^ i / 2 ^ j ≡ 1 * 2 ^ suc d = ap (λ (x : ℕ). 2 ^ x / 2 ^ j) above ∙ ap (λ (x : ℕ). x / 2 ^ j) (pow-add 2 (suc d) j) ∙ shl-shr (2 ^ suc d) j ∙ sym (one-mul (2 ^ suc d)) in
        ap (λ (x : ℕ). x % 2) powers ∙ shifted_even 1 d

-- the bit at j once the bit at i is set
or_bit : (x i j : ℕ) → bit_or x (2 ^ i) / 2 ^ j % 2 ≡ bit_or (x / 2 ^ j % 2) (2 ^ i / 2 ^ j % 2)
or_bit x i j = ap (λ (y : ℕ). y % 2) (or_shr x (2 ^ i) j) ∙ or_mod (x / 2 ^ j) (2 ^ i / 2 ^ j) 1

or_one : (b : ℕ) → b < 2 → bit_or b 1 ≡ 1
or_one zero h = refl
or_one (suc zero) h = refl
or_one (suc (suc b)) h = absurd (omega arith)

module _ (marks : Marks) (n : SiteNumber) (fits : n.0 / 8 < length marks.octets) where
  octet : ℕ
  octet = bit_or (get_or marks.octets (n.0 / 8) 0) (2 ^ (n.0 % 8))

  marked-same : is_marked (with_mark marks n) n ≡ true
  unfolding is_marked with_mark
  marked-same =
      let x = get_or marks.octets (n.0 / 8) 0 in
      let i = n.0 % 8 in
      let b : x / 2 ^ i % 2 < 2 = mod-lt (x / 2 ^ i) (omega arith) in
      let set_bit : bit_or x (2 ^ i) / 2 ^ i % 2 ≡ 1 = or_bit x i i ∙ ap (bit_or (x / 2 ^ i % 2)) (bit_same i) ∙ or_one (x / 2 ^ i % 2) b in
      ap (λ (y : ℕ). eqb (y / 2 ^ i % 2) 1) (get_or-set_same marks.octets (n.0 / 8) (bit_or x (2 ^ i)) 0 fits) ∙ ap (λ (y : ℕ). eqb y 1) set_bit

  marked_other : (m : SiteNumber) → (n.0 ≡ m.0 → ⊥) → is_marked (with_mark marks n) m ≡ is_marked marks m
  unfolding is_marked with_mark octet
  marked_other m differ = go (eqb (m.0 / 8) (n.0 / 8)) refl
    where
      k : ℕ
      k = m.0

      go : (b : Bool) → eqb (m.0 / 8) (n.0 / 8) ≡ b → eqb (get_or (set marks.octets (n.0 / 8) octet) (m.0 / 8) 0 / 2 ^ (m.0 % 8) % 2) 1 ≡ eqb (get_or marks.octets (m.0 / 8) 0 / 2 ^ (m.0 % 8) % 2) 1
      go true e =
          let same : m.0 / 8 ≡ n.0 / 8 = eqb-true (m.0 / 8) (n.0 / 8) e in
          let apart : n.0 % 8 ≡ m.0 % 8 → ⊥ = λ (q : n.0 % 8 ≡ m.0 % 8). differ (sym (div-add-mod' n.0 8) ∙ ap₂ (λ (u v : ℕ). u * 8 + v) (sym same) q ∙ div-add-mod' m.0 8) in
          let x = get_or marks.octets (m.0 / 8) 0 in
          let left : get_or (set marks.octets (n.0 / 8) octet) (m.0 / 8) 0 ≡ bit_or x (2 ^ (n.0 % 8)) = rw same (get_or-set_same marks.octets (n.0 / 8) octet 0 fits) in
          ap (λ (y : ℕ). eqb (y / 2 ^ (m.0 % 8) % 2) 1) left
          ∙ ap (λ (y : ℕ). eqb y 1) (or_bit x (n.0 % 8) (m.0 % 8) ∙ ap (bit_or (x / 2 ^ (m.0 % 8) % 2)) (bit_other (n.0 % 8) (m.0 % 8) apart) ∙ or_zero_r (x / 2 ^ (m.0 % 8) % 2))
      go false e = ap (λ (y : ℕ). eqb (y / 2 ^ (m.0 % 8) % 2) 1) (get_or-set_other marks.octets (n.0 / 8) (m.0 / 8) octet 0 (eqb-false (m.0 / 8) (n.0 / 8) e))

pub length-with_mark : (marks : Marks) (n : SiteNumber) → length (with_mark marks n).octets ≡ length marks.octets
unfolding with_mark
length-with_mark marks n = length-set marks.octets (n.0 / 8) _

get_d_zeros : (n k : ℕ) → ◌≡◌ {A = ℕ} (get_or (replicate n 0) k 0) 0
get_d_zeros zero k = refl
get_d_zeros (suc n) zero = refl
get_d_zeros (suc n) (suc k) = get_d_zeros n k

pub marked_none : (image : List ℕ) → Marked no_marks image []
unfolding is_marked any
marked_none image n = rw (get_d_zeros 8192 (n.0 / 8), div-eq_of_lt (pow_pos (n.0 % 8)))

pub seen_none : (marks : Marks) (image offsets : List ℕ) → Marked marks image [] → Seen marks image offsets (length offsets)
unfolding unique
seen_none marks image offsets none =
    record {
      marked = subst (Marked marks image) (sym (drop-length offsets)) none;
      uniquely = ap (unique (same_site_at image)) (drop-length offsets);
    }

-- one number more: the site before those seen
module _ (marks : Marks) (image offsets : List ℕ) (i : ℕ) (n : SiteNumber) (h : i < length offsets) (e : n ≡ number_at image (get_or offsets i 0)) (seen : Seen marks image offsets (i + 1)) where
  -- its mark says whether one after it has it too
  mark_after : is_marked marks n ≡ any (same_site_at image (get_or offsets i 0)) (drop (i + 1) offsets)
  mark_after =
      seen.marked n
      ∙ ap (λ (p : ℕ → Bool). any p (drop (i + 1) offsets)) (fun_ext (λ p. eqb_comm (number_at image p).0 n.0 ∙ ap (λ (k : SiteNumber). same_site_lem k (number_at image p)) e))

  pub seen_twice : is_marked marks n ≡ true → false ≡ unique (same_site_at image) offsets
  seen_twice t = unique_part (same_site_at image) offsets i (unique_fails (same_site_at image) offsets i 0 h (sym mark_after ∙ t))

  mark_one : n.0 / 8 < length marks.octets → Marked (with_mark marks n) image (drop i offsets)
  unfolding any
  mark_one fits m =
      let here : drop i offsets ≡ get_or offsets i 0 ∷ drop (i + 1) offsets = rw (add-one, drop-cons offsets i 0 h) in
      go (eqb n.0 m.0) refl
      ∙ ap (λ (k : SiteNumber). same_site_lem k m || any (λ p. same_site_lem (number_at image p) m) (drop (i + 1) offsets)) e
      ∙ ap (any (λ p. same_site_lem (number_at image p) m)) (sym here)
    where
      one : (m : SiteNumber) → n.0 ≡ m.0 → n ≡ m
      one m q = ap (λ (k : ℕ). record { 0 = k }) q

      go : (b : Bool) → eqb n.0 m.0 ≡ b → is_marked (with_mark marks n) m ≡ (eqb n.0 m.0 || any (λ p. same_site_lem (number_at image p) m) (drop (i + 1) offsets))
      go true t = rw t (ap (is_marked (with_mark marks n)) (sym (one m (eqb-true n.0 m.0 t))) ∙ marked-same marks n fits)
      go false t = rw t (marked_other marks n fits m (eqb-false n.0 m.0 t) ∙ seen.marked m)

  pub seen_once : is_marked marks n ≡ false → n.0 / 8 < length marks.octets → Seen (with_mark marks n) image offsets i
  seen_once t fits =
      record {
        marked = mark_one fits;
        uniquely = sym (unique-next (same_site_at image) offsets i 0 h (sym mark_after ∙ t)) ∙ seen.uniquely;
      }
