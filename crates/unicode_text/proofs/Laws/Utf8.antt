-- Laws of UTF-8: a text that is UTF-8 is the octets of its code points; without zero octets they are ones that UTF-16 can say, of no more units than the text has octets.
use Rattle.std.proofs.Common.{Some}
use mathlib.Core.Path.{◌≡◌, refl, sym, ◌∙◌, subst}
use mathlib.Core.Bool.{Bool, true, false, cond}
use mathlib.Core.List.{List, [], ◌∷◌, ◌++◌, append_assoc, flat_map}
use Prim.Native.Nat.{ℕ, zero, suc, ◌+◌, ◌*◌, ◌/◌, ◌%◌, ◌≤◌, ◌<◌}
use native.Mathlib.Omega.{arith}
use lib.Dec.{eqb, ltb}
use lib.ListN.{length}
use borrow.Author.Tests.{ltb-true, ltb-false, eqb-true, eqb-false, lt-ltb, le-ltb}
use Rattle.octets.proofs.Laws.Lists.{Every, none_not_some, cond_has}
use Rattle.octets.specs.Text.{within}
use Rattle.octets.proofs.Laws.Text.{within_low, within-high}
use Rattle.unicode_text.specs.Utf8.{Partial, Decoded, point, more, lead, closes, follow, Decoder, between, partway, decode, points_from, points, utf8_of}
use Rattle.unicode_text.proofs.Laws.Codec.{Code, Comes, Before, After, turn_comes}

-- a code point's octets, by the octets themselves
module _ (c : ℕ) where
  pub of_one : c < 0x80 → utf8_of c ≡ c ∷ []
  unfolding utf8_of
  of_one h = rw (lt-ltb c 0x80 h)

  pub of_two : (x y : ℕ) → 0x80 ≤ c → c < 0x800 → x ≡ 0xC0 + c / 64 → y ≡ 0x80 + c % 64 → utf8_of c ≡ x ∷ y ∷ []
  unfolding utf8_of
  of_two x y h k e f = rw (le-ltb c 0x80 h, lt-ltb c 0x800 k, e, f)

  pub of_three : (x y z : ℕ) → 0x800 ≤ c → c < 0x10000 → x ≡ 0xE0 + c / 4096 → y ≡ 0x80 + c / 64 % 64 → z ≡ 0x80 + c % 64 → utf8_of c ≡ x ∷ y ∷ z ∷ []
  unfolding utf8_of
  of_three x y z h k e f g = let a : 0x80 ≤ c = omega arith in rw (le-ltb c 0x80 a, le-ltb c 0x800 h, lt-ltb c 0x10000 k, e, f, g)

  pub of_four : (x y z w : ℕ) → 0x10000 ≤ c → x ≡ 0xF0 + c / 262144 → y ≡ 0x80 + c / 4096 % 64 → z ≡ 0x80 + c / 64 % 64 → w ≡ 0x80 + c % 64 → utf8_of c ≡ x ∷ y ∷ z ∷ w ∷ []
  unfolding utf8_of
  of_four x y z w h e f g k =
      let a : 0x80 ≤ c = omega arith in
      let b : 0x800 ≤ c = omega arith in
      rw (le-ltb c 0x80 a, le-ltb c 0x800 b, le-ltb c 0x10000 h, e, f, g, k)

-- whatever octets in range come after p, the code point's octets are p and these
abbrev OwesAs : ℕ → ℕ → ℕ → ℕ → List ℕ → Type 0
OwesAs zero low high bits p = Unit {0}
OwesAs (suc zero) low high bits p = (y : ℕ) → low ≤ y → y ≤ high → Code (bits * 64 + y % 64) × (utf8_of (bits * 64 + y % 64) ≡ p ++ (y ∷ []))
OwesAs (suc (suc k)) low high bits p = (y : ℕ) → low ≤ y → y ≤ high → OwesAs (suc k) 0x80 0xBF (bits * 64 + y % 64) (p ++ (y ∷ []))

abbrev Owes8 : Partial → List ℕ → Type 0
Owes8 i p = OwesAs i.left i.low i.high i.bits p

-- three octets, and four
module _ (x y z : ℕ) (hy : 0x80 ≤ y) (ky : y ≤ 0xBF) (hz : 0x80 ≤ z) (kz : z ≤ 0xBF) where
  abbrev point_of_three : ℕ
  point_of_three = (x % 16 * 64 + y % 64) * 64 + z % 64

  of_three_octets : 0xE0 ≤ x → x < 0xF0 → 0x800 ≤ point_of_three → (0xD800 ≤ point_of_three → 0xE000 ≤ point_of_three) → Code point_of_three × (utf8_of point_of_three ≡ x ∷ y ∷ z ∷ [])
  of_three_octets h k a b = (record { below = omega arith; unique = b }, of_three point_of_three x y z a (omega arith) (omega arith) (omega arith) (omega arith))

  abbrev point_of_four : ℕ → ℕ
  point_of_four w = ((x % 8 * 64 + y % 64) * 64 + z % 64) * 64 + w % 64

  of_four_octets : (w : ℕ) → 0x80 ≤ w → w ≤ 0xBF → 0xF0 ≤ x → x ≤ 0xF4 → 0x10000 ≤ point_of_four w → point_of_four w < 0x110000 → Code (point_of_four w) × (utf8_of (point_of_four w) ≡ x ∷ y ∷ z ∷ w ∷ [])
  of_four_octets w hw kw h k a b = (record { below = b; unique = omega arith }, of_four (point_of_four w) x y z w a (omega arith) (omega arith) (omega arith) (omega arith))

lead_after : (x : ℕ) → After utf8_of Owes8 (lead x) (x ∷ [])
unfolding lead
lead_after x =
    cond_has P (ltb x 0x80) _ _ (λ a. ascii (ltb-true x 0x80 a)) (λ a.
    cond_has P (ltb x 0xC2) _ _ (λ b. tt) (λ b.
    cond_has P (ltb x 0xE0) _ _ (λ c. two (ltb-false x 0xC2 b) (ltb-true x 0xE0 c)) (λ c.
    cond_has P (eqb x 0xE0) _ _ (λ d. first_three (eqb-true x 0xE0 d)) (λ d.
    cond_has P (eqb x 0xED) _ _ (λ e. last_three (eqb-true x 0xED e)) (λ e.
    cond_has P (ltb x 0xF0) _ _ (λ f. three (ltb-false x 0xE0 c) (ltb-true x 0xF0 f) (eqb-false x 0xE0 d) (eqb-false x 0xED e)) (λ f.
    cond_has P (eqb x 0xF0) _ _ (λ g. first_four (eqb-true x 0xF0 g)) (λ g.
    cond_has P (ltb x 0xF4) _ _ (λ h. four (ltb-false x 0xF0 f) (ltb-true x 0xF4 h) (eqb-false x 0xF0 g)) (λ h.
    cond_has P (eqb x 0xF4) _ _ (λ i. last_four (eqb-true x 0xF4 i)) (λ i. tt)))))))))
  where
    P : Decoded → Type 0
    P d = After utf8_of Owes8 d (x ∷ [])

    ascii : x < 0x80 → P (point x)
    ascii h = (record { below = omega arith; unique = omega arith }, of_one x h)

    two : 0xC2 ≤ x → x < 0xE0 → OwesAs 1 0x80 0xBF (x % 32) (x ∷ [])
    two a b y h k = (record { below = omega arith; unique = omega arith }, of_two (x % 32 * 64 + y % 64) x y (omega arith) (omega arith) (omega arith) (omega arith))

    first_three : x ≡ 0xE0 → OwesAs 2 0xA0 0xBF (x % 16) (x ∷ [])
    first_three e y h k z m n = of_three_octets x y z (omega arith) (omega arith) m n (omega arith) (omega arith) (omega arith) (omega arith)

    last_three : x ≡ 0xED → OwesAs 2 0x80 0x9F (x % 16) (x ∷ [])
    last_three e y h k z m n = of_three_octets x y z (omega arith) (omega arith) m n (omega arith) (omega arith) (omega arith) (omega arith)

    three : 0xE0 ≤ x → x < 0xF0 → (x ≡ 0xE0 → ⊥) → (x ≡ 0xED → ⊥) → OwesAs 2 0x80 0xBF (x % 16) (x ∷ [])
    three a b c d y h k z m n = of_three_octets x y z (omega arith) (omega arith) m n (omega arith) (omega arith) (omega arith) (omega arith)

    first_four : x ≡ 0xF0 → OwesAs 3 0x90 0xBF (x % 8) (x ∷ [])
    first_four e y h k z m n w p q = of_four_octets x y z (omega arith) (omega arith) m n w p q (omega arith) (omega arith) (omega arith) (omega arith)

    four : 0xF0 ≤ x → x < 0xF4 → (x ≡ 0xF0 → ⊥) → OwesAs 3 0x80 0xBF (x % 8) (x ∷ [])
    four a b c y h k z m n w p q = of_four_octets x y z (omega arith) (omega arith) m n w p q (omega arith) (omega arith) (omega arith) (omega arith)

    last_four : x ≡ 0xF4 → OwesAs 3 0x80 0x8F (x % 8) (x ∷ [])
    last_four e y h k z m n w p q = of_four_octets x y z (omega arith) (omega arith) m n w p q (omega arith) (omega arith) (omega arith) (omega arith)

follow-after : (i : Partial) (p : List ℕ) → Owes8 i p → (x : ℕ) → After utf8_of Owes8 (follow i x) (p ++ (x ∷ []))
unfolding follow
follow-after i p s x =
    cond_has P (within i.low i.high x) _ _ (λ a. go i.left s (within_low i.low i.high x a) (within-high i.low i.high x a)) (λ a. tt)
  where
    P : Decoded → Type 0
    P d = After utf8_of Owes8 d (p ++ (x ∷ []))

    go : (left : ℕ) → OwesAs left i.low i.high i.bits p → i.low ≤ x → x ≤ i.high → P (closes left (i.bits * 64 + x % 64))
    go zero s a b = tt
    go (suc zero) s a b = s x a b
    go (suc (suc k)) s a b = s x a b

decode-after : (d : Decoder) (p : List ℕ) → Before utf8_of Owes8 d p → (x : ℕ) → After utf8_of Owes8 (decode d x) (p ++ (x ∷ []))
decode-after between p e x = subst (λ (q : List ℕ). After utf8_of Owes8 (lead x) (q ++ (x ∷ []))) (sym e) (lead_after x)
decode-after (partway i) p s x = follow-after i p s x

comes_from : (xs : List ℕ) (d : Decoder) (p cs : List ℕ) → Before utf8_of Owes8 d p → points_from d xs ≡ Some cs → Comes utf8_of (p ++ xs) cs
unfolding points_from flat_map
comes_from [] between p cs b e = let k : [] ≡ cs = cc in subst (λ (q : List ℕ). Comes utf8_of (q ++ []) cs) (sym b) (subst (Comes utf8_of []) k (tt, refl))
comes_from [] (partway i) p cs b e = absurd (none_not_some cs e)
comes_from (x ∷ xs) d p cs b e =
    let r : Comes utf8_of ((p ++ (x ∷ [])) ++ xs) cs =
    turn_comes utf8_of Owes8 (decode d x) (p ++ (x ∷ [])) xs cs (λ n. points_from n xs) (decode-after d p b x) e (λ n q ds c k. comes_from xs n q ds c k) in
    (r.0, r.1 ∙ append_assoc p (x ∷ []) xs)

-- a text that is UTF-8 is the octets of its code points
pub points_comes : (t cs : List ℕ) → points t ≡ Some cs → Every Code cs × (flat_map utf8_of cs ≡ t)
points_comes t cs e = comes_from t between [] cs refl e

-- whatever octets there are, zero too: what one leads to stays below 110000h, as it is owed from some octets on
abbrev pub Below : Decoded → Type 0
Below d = (p : List ℕ) × After utf8_of Owes8 d p

pub lead_below : (x : ℕ) → Below (lead x)
lead_below x = (x ∷ [], lead_after x)

pub follow_below : (i : Partial) (x : ℕ) → Below (more i) → Below (follow i x)
follow_below i x b = (b.0 ++ (x ∷ []), follow-after i b.0 b.1 x)

-- a code point that is no surrogate, not zero and below 110000h
pub record Scalar (c : ℕ) : Type 0 where
  pub some : 1 ≤ c
  pub below : c < 0x110000
  pub unique : 0xD800 ≤ c → 0xE000 ≤ c

-- the units that a code point takes in UTF-16
abbrev pub units : ℕ → ℕ
units c = cond (ltb c 0x10000) 1 2

abbrev pub units_of : List ℕ → ℕ
units_of [] = 0
units_of (c ∷ cs) = units c + units_of cs

units-two : (c : ℕ) → units c ≤ 2
units-two c = go (ltb c 0x10000)
  where
    go : (b : Bool) → cond b 1 2 ≤ 2
    go true = omega arith
    go false = omega arith

-- of a code point's octets without a zero, and what follows them
one_sayable : (c : ℕ) (rest : List ℕ) → Every (λ x. 1 ≤ x) (utf8_of c ++ rest) → (1 ≤ c) × Every (λ x. 1 ≤ x) rest × (units c + length rest ≤ length (utf8_of c ++ rest))
unfolding utf8_of
one_sayable c rest =
    cond_has P (ltb c 0x80) _ _ (λ a z. let k : c < 0x10000 = omega (arith, ltb-true c 0x80 a) in (z.0, z.1, rw (lt-ltb c 0x10000 k) (omega arith))) (λ a.
    let k : 1 ≤ c = omega (arith, ltb-false c 0x80 a) in
    cond_has P (ltb c 0x800) _ _ (λ b z. (k, z.1.1, omega (arith, units-two c))) (λ b.
    cond_has P (ltb c 0x10000) _ _ (λ d z. (k, z.1.1.1, omega (arith, units-two c))) (λ d z. (k, z.1.1.1.1, omega (arith, units-two c)))))
  where
    P : List ℕ → Type 0
    P octets = Every (λ x. 1 ≤ x) (octets ++ rest) → (1 ≤ c) × Every (λ x. 1 ≤ x) rest × (units c + length rest ≤ length (octets ++ rest))

-- a text without zero octets: its code points are no surrogates, not zero, and take no more units than it has octets
abbrev Sayable : List ℕ → List ℕ → Type 0
Sayable s cs = Every Scalar cs × (units_of cs ≤ length s)

octets_sayable : (cs : List ℕ) → Every Code cs → Every (λ x. 1 ≤ x) (flat_map utf8_of cs) → Sayable (flat_map utf8_of cs) cs
unfolding flat_map
octets_sayable [] h z = (tt, omega arith)
octets_sayable (c ∷ cs) h z =
    let one = one_sayable c (flat_map utf8_of cs) z in
    let rest = octets_sayable cs h.1 one.1 in
    ((record { some = one.0; below = h.0.below; unique = h.0.unique }, rest.0), omega arith)

pub sayable : (s cs : List ℕ) → Every (λ x. 1 ≤ x) s → points s ≡ Some cs → Every Scalar cs × (units_of cs ≤ length s)
sayable s cs z e =
    let r = points_comes s cs e in
    subst (λ (t : List ℕ). Every (λ x. 1 ≤ x) t → Sayable t cs) r.1 (octets_sayable cs r.0) z

-- ASCII octets are their own code points
pub points_ascii : (s : List ℕ) → Every (λ x. x < 0x80) s → points s ≡ Some s
unfolding points_from lead
points_ascii [] h = refl
points_ascii (x ∷ xs) h = rw (lt-ltb x 0x80 h.0, points_ascii xs h.1)
