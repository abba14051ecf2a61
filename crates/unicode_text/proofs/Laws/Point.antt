-- Laws of a code point at an offset: what its octets, decoded one after the other, say of the text.
use Rattle.std.proofs.Common.{Option, None, Some, option_map, is_some}
use mathlib.Core.Path.{◌≡◌, refl, sym, ap, subst, ◌∙◌}
use mathlib.Core.Bool.{Bool, true, false, cond}
use mathlib.Core.List.{List, [], ◌∷◌}
use Prim.Native.Nat.{ℕ, ◌+◌, ◌*◌, ◌%◌, ◌≤◌, ◌<◌}
use native.Mathlib.Numerals.{add-one}
use native.Mathlib.Omega.{arith}
use lib.Dec.{eqb, leb, ltb}
use lib.ListN.{length, get_or, drop, drop_of_length-le, get_or-eq_default}
use lib.Seq.{drop-cons}
use borrow.Author.Tests.{eqb-true, eqb-false, ne_eqb, leb-true, ltb-true, ltb-false, lt-ltb, le-ltb}
use Rattle.octets.specs.Text.{within}
use Rattle.octets.proofs.Laws.Lists.{none_not_some, both_left}
use Rattle.unicode_text.specs.declared.utf8.PointAt.TheVariants.{Bad, Point}
use Rattle.unicode_text.specs.Utf8.{Partial, Decoded, bad, point, more, Decoder, between, partway, opens, closes, lead, follow, decode, on_decoded, points_from, points}
use Rattle.unicode_text.specs.Internal.Point.{read_on, readable_from, readable, point_limit, PointRead, SixBits, StandAt, CodeRead, CodeOf, size_of}
use Rattle.unicode_text.proofs.Laws.Utf8.{Below, lead_below, follow_below}

-- six bits read at an offset, or 64
abbrev SixBitsAt : List ℕ → ℕ → ℕ → ℕ → ℕ → Type 0
SixBitsAt s at low high r =
    (r ≤ 63 → (at < length s) × (within low high (get_or s at 0) ≡ true) × (r ≡ get_or s at 0 % 64))
    × (63 < r → at < length s → within low high (get_or s at 0) ≡ false)

-- the octet at an offset, from a first one on and before a last one
abbrev LeadAt : List ℕ → ℕ → ℕ → ℕ → ℕ → Type 0
LeadAt s at lead from before = (at < length s) × (lead ≡ get_or s at 0) × (from ≤ lead) × (lead < before)

-- a missing octet is 0, which no range from 1 on has
pub six-at : (s : List ℕ) (at x low high r : ℕ) → x ≡ get_or s at 0 → 1 ≤ low → SixBits x low high r → SixBitsAt s at low high r
six-at s at x low high r e h p = (λ k. (inside (ltb at (length s)) refl (p.0 k).0, ap (within low high) (sym e) ∙ (p.0 k).0, (p.0 k).1 ∙ ap (λ (n : ℕ). n % 64) e), λ k q. ap (within low high) (sym e) ∙ p.1 k)
  where
    inside : (b : Bool) → ltb at (length s) ≡ b → within low high x ≡ true → at < length s
    inside true f w = ltb-true at (length s) f
    inside false f w =
        let z : x ≡ 0 = e ∙ get_or-eq_default s 0 (ltb-false at (length s) f) in
        let k : low ≤ x = leb-true low x (both_left (leb low x) (leb x high) w) in
        absurd (omega (arith, z, k, h))

-- what is left at an offset, by the octet there
module _ (decoder : Decoder) (s : List ℕ) (i : ℕ) (h : i < length s) where
  opened : points_from decoder (drop i s) ≡ on_decoded (decode decoder (get_or s i 0)) (λ n. points_from n (drop (i + 1) s))
  unfolding points_from
  opened = rw (add-one, drop-cons s i 0)

  opened_readable : readable_from decoder (drop i s) ≡ read_on (decode decoder (get_or s i 0)) (λ n. readable_from n (drop (i + 1) s))
  unfolding readable_from
  opened_readable = rw (add-one, drop-cons s i 0)

-- the octets from `at` to `next` are read, and have led to `decoded`
abbrev Reading : List ℕ → ℕ → Decoded → ℕ → Type 0
Reading s at decoded next =
    Below decoded × (points (drop at s) ≡ on_decoded decoded (λ n. points_from n (drop next s))) × (readable (drop at s) ≡ read_on decoded (λ n. readable_from n (drop next s)))

module _ (s : List ℕ) (at : ℕ) where
  reading_first : at < length s → (decoded : Decoded) → lead (get_or s at 0) ≡ decoded → Reading s at decoded (at + 1)
  reading_first h decoded e = subst (λ (d : Decoded). Reading s at d (at + 1)) e (lead_below (get_or s at 0), opened between s at h, opened_readable between s at h)

  read-point : (c next : ℕ) → at < next → next ≤ length s → Reading s at (point c) next → PointRead s at (Point c next)
  read-point c next h k r = (h, k, r.0.1.0.below, r.1, r.2)

  -- a later octet, by what was read of it
  module _ (i : Partial) (next bits : ℕ) (r : Reading s at (more i) next) (six : SixBitsAt s next i.low i.high bits) where
    later_bad : 63 < bits → PointRead s at Bad
    unfolding follow points_from readable_from
    later_bad h = go (ltb next (length s)) refl
      where
        go : (b : Bool) → ltb next (length s) ≡ b → PointRead s at Bad
        go true e =
            let k : next < length s = ltb-true next (length s) e in
            (r.1 ∙ opened (partway i) s next k ∙ rw (six.1 h k), r.2 ∙ opened_readable (partway i) s next k ∙ rw (six.1 h k))
        go false e =
            let k : drop next s ≡ [] = drop_of_length-le s (ltb-false next (length s) e) in
            (r.1 ∙ ap (points_from (partway i)) k, r.2 ∙ ap (readable_from (partway i)) k)

    later_good : (after : ℕ) → next + 1 ≡ after → bits ≤ 63 → Reading s at (closes i.left (i.bits * 64 + bits)) after
    unfolding follow
    later_good after q h =
        let k : next < length s = (six.0 h).0 in
        let e : follow i (get_or s next 0) ≡ closes i.left (i.bits * 64 + bits) = rw ((six.0 h).1, (six.0 h).2) in
        subst (Reading s at (closes i.left (i.bits * 64 + bits))) q
        (subst (λ (d : Decoded). Reading s at d (next + 1)) e (follow_below i (get_or s next 0) r.0, r.1 ∙ opened (partway i) s next k, r.2 ∙ opened_readable (partway i) s next k))

-- a lead from F0h on
past : (x : ℕ) → 0xF0 ≤ x → lead x ≡ cond (eqb x 0xF0) (opens 3 0x90 0xBF (x % 8)) (cond (ltb x 0xF4) (opens 3 0x80 0xBF (x % 8)) (cond (eqb x 0xF4) (opens 3 0x80 0x8F (x % 8)) bad))
unfolding lead
past x h =
    let a : 0x80 ≤ x = omega arith in
    let b : 0xC2 ≤ x = omega arith in
    let c : 0xE0 ≤ x = omega arith in
    let d : eqb x 0xE0 ≡ false = ne_eqb x 0xE0 (λ e. omega (arith, e, h)) in
    let f : eqb x 0xED ≡ false = ne_eqb x 0xED (λ e. omega (arith, e, h)) in
    rw (le-ltb x 0x80 a, le-ltb x 0xC2 b, le-ltb x 0xE0 c, d, f, le-ltb x 0xF0 h)

-- characters by their leads
module _ (s : List ℕ) (at x : ℕ) where
  abbrev Led : Decoded → Type 0
  Led decoded = Reading s at decoded (at + 1)

  lead_as : at < length s → x ≡ get_or s at 0 → (decoded : Decoded) → lead x ≡ decoded → Led decoded
  lead_as h e decoded f = reading_first s at h decoded (ap lead (sym e) ∙ f)

  pub lead-one : at < length s → x ≡ get_or s at 0 → x < 0x80 → PointRead s at (Point x (at + 1))
  unfolding lead
  lead-one h e a = read-point s at x (at + 1) (omega arith) (omega arith) (lead_as h e (point x) (rw (lt-ltb x 0x80 a)))

  pub lead-between : at < length s → x ≡ get_or s at 0 → 0x80 ≤ x → x < 0xC2 → PointRead s at Bad
  unfolding lead
  lead-between h e a b = let r = lead_as h e bad (rw (le-ltb x 0x80 a, lt-ltb x 0xC2 b)) in (r.1, r.2)

  lead-two : LeadAt s at x 0xC2 0xE0 → Led (opens 1 0x80 0xBF (x % 32))
  unfolding lead
  lead-two l =
      let a : 0x80 ≤ x = omega arith in
      lead_as l.0 l.1 (opens 1 0x80 0xBF (x % 32)) (rw (le-ltb x 0x80 a, le-ltb x 0xC2 l.2, lt-ltb x 0xE0 l.3))

  lead_three : LeadAt s at x 0xE0 0xF0 → Led (opens 2 (cond (eqb x 0xE0) 0xA0 0x80) (cond (eqb x 0xED) 0x9F 0xBF) (x % 16))
  unfolding lead
  lead_three l = lead_as l.0 l.1 (opens 2 (cond (eqb x 0xE0) 0xA0 0x80) (cond (eqb x 0xED) 0x9F 0xBF) (x % 16)) (go (eqb x 0xE0) (eqb x 0xED) refl refl)
    where
      low : 0x80 ≤ x
      low = omega (arith, l.2)

      mid : 0xC2 ≤ x
      mid = omega (arith, l.2)

      go : (b c : Bool) → eqb x 0xE0 ≡ b → eqb x 0xED ≡ c → lead x ≡ opens 2 (cond (eqb x 0xE0) 0xA0 0x80) (cond (eqb x 0xED) 0x9F 0xBF) (x % 16)
      go true true e f = absurd (omega (arith, eqb-true x 0xE0 e, eqb-true x 0xED f))
      go true false e f = rw (le-ltb x 0x80 low, le-ltb x 0xC2 mid, le-ltb x 0xE0 l.2, e, f)
      go false true e f = rw (le-ltb x 0x80 low, le-ltb x 0xC2 mid, le-ltb x 0xE0 l.2, e, f)
      go false false e f = rw (le-ltb x 0x80 low, le-ltb x 0xC2 mid, le-ltb x 0xE0 l.2, e, f, lt-ltb x 0xF0 l.3)

  lead_four : LeadAt s at x 0xF0 0xF5 → Led (opens 3 (cond (eqb x 0xF0) 0x90 0x80) (cond (eqb x 0xF4) 0x8F 0xBF) (x % 8))
  unfolding lead
  lead_four l = lead_as l.0 l.1 (opens 3 (cond (eqb x 0xF0) 0x90 0x80) (cond (eqb x 0xF4) 0x8F 0xBF) (x % 8)) (go (eqb x 0xF0) (eqb x 0xF4) refl refl)
    where
      high : lead x ≡ cond (eqb x 0xF0) (opens 3 0x90 0xBF (x % 8)) (cond (ltb x 0xF4) (opens 3 0x80 0xBF (x % 8)) (cond (eqb x 0xF4) (opens 3 0x80 0x8F (x % 8)) bad))
      high = past x (omega (arith, l.2))

      go : (b c : Bool) → eqb x 0xF0 ≡ b → eqb x 0xF4 ≡ c → lead x ≡ opens 3 (cond (eqb x 0xF0) 0x90 0x80) (cond (eqb x 0xF4) 0x8F 0xBF) (x % 8)
      go true true e f = absurd (omega (arith, eqb-true x 0xF0 e, eqb-true x 0xF4 f))
      go true false e f = high ∙ rw (e, f) refl
      go false true e f = let k : 0xF4 ≤ x = omega (arith, eqb-true x 0xF4 f) in high ∙ rw (e, f, le-ltb x 0xF4 k) refl
      go false false e f =
          let n : x ≡ 0xF4 → ⊥ = eqb-false x 0xF4 f in
          let k : x < 0xF4 = omega (arith, l.3, n) in
          high ∙ rw (e, f, lt-ltb x 0xF4 k) refl

  pub lead-past : at < length s → x ≡ get_or s at 0 → 0xF5 ≤ x → PointRead s at Bad
  lead-past h e a =
      let f : eqb x 0xF0 ≡ false = ne_eqb x 0xF0 (λ q. omega (arith, q, a)) in
      let g : eqb x 0xF4 ≡ false = ne_eqb x 0xF4 (λ q. omega (arith, q, a)) in
      let k : 0xF4 ≤ x = omega arith in
      let r = lead_as h e bad (past x (omega arith) ∙ rw (f, g, le-ltb x 0xF4 k) refl) in
      (r.1, r.2)

-- whole characters, by what was read of each octet
module _ (s : List ℕ) (at x y : ℕ) where
  abbrev later : ℕ → ℕ → ℕ → ℕ → Partial
  later left low high bits = record { left = left; low = low; high = high; bits = bits }

  module _ (l : LeadAt s at x 0xC2 0xE0) (six : SixBitsAt s (at + 1) 0x80 0xBF y) where
    pub two-bad : 63 < y → PointRead s at Bad
    two-bad = later_bad s at (later 1 0x80 0xBF (x % 32)) (at + 1) y (lead-two s at x l) six

    pub two-point : (c : ℕ) → c ≡ x % 32 * 64 + y → y ≤ 63 → PointRead s at (Point c (at + 2))
    two-point c e h =
        read-point s at c (at + 2) (omega arith) (omega (arith, (six.0 h).0))
        (subst (λ (k : ℕ). Reading s at (point k) (at + 2)) (sym e) (later_good s at (later 1 0x80 0xBF (x % 32)) (at + 1) y (lead-two s at x l) six (at + 2) (omega arith) h))

  module _ (z low high : ℕ) where
    module _ (l : LeadAt s at x 0xE0 0xF0) (e : low ≡ cond (eqb x 0xE0) 0xA0 0x80) (f : high ≡ cond (eqb x 0xED) 0x9F 0xBF) (six : SixBitsAt s (at + 1) low high y) where
      led_three : Reading s at (opens 2 low high (x % 16)) (at + 1)
      led_three = rw (e, f) (lead_three s at x l)

      pub three_bad : 63 < y → PointRead s at Bad
      three_bad = later_bad s at (later 2 low high (x % 16)) (at + 1) y led_three six

      module _ (h : y ≤ 63) (last : SixBitsAt s (at + 2) 0x80 0xBF z) where
        second : Reading s at (opens 1 0x80 0xBF (x % 16 * 64 + y)) (at + 2)
        second = later_good s at (later 2 low high (x % 16)) (at + 1) y led_three six (at + 2) (omega arith) h

        pub three_cut : 63 < z → PointRead s at Bad
        three_cut = later_bad s at (later 1 0x80 0xBF (x % 16 * 64 + y)) (at + 2) z second last

        pub three_point : (c : ℕ) → c ≡ (x % 16 * 64 + y) * 64 + z → z ≤ 63 → PointRead s at (Point c (at + 3))
        three_point c q k =
            read-point s at c (at + 3) (omega arith) (omega (arith, (last.0 k).0))
            (subst (λ (m : ℕ). Reading s at (point m) (at + 3)) (sym q) (later_good s at (later 1 0x80 0xBF (x % 16 * 64 + y)) (at + 2) z second last (at + 3) (omega arith) k))

    module _ (l : LeadAt s at x 0xF0 0xF5) (e : low ≡ cond (eqb x 0xF0) 0x90 0x80) (f : high ≡ cond (eqb x 0xF4) 0x8F 0xBF) (six : SixBitsAt s (at + 1) low high y) where
      led_four : Reading s at (opens 3 low high (x % 8)) (at + 1)
      led_four = rw (e, f) (lead_four s at x l)

      pub four_bad : 63 < y → PointRead s at Bad
      four_bad = later_bad s at (later 3 low high (x % 8)) (at + 1) y led_four six

      module _ (h : y ≤ 63) (next : SixBitsAt s (at + 2) 0x80 0xBF z) where
        second_of_four : Reading s at (opens 2 0x80 0xBF (x % 8 * 64 + y)) (at + 2)
        second_of_four = later_good s at (later 3 low high (x % 8)) (at + 1) y led_four six (at + 2) (omega arith) h

        pub four_cut : 63 < z → PointRead s at Bad
        four_cut = later_bad s at (later 2 0x80 0xBF (x % 8 * 64 + y)) (at + 2) z second_of_four next

        module _ (w : ℕ) (k : z ≤ 63) (last : SixBitsAt s (at + 3) 0x80 0xBF w) where
          third : Reading s at (opens 1 0x80 0xBF ((x % 8 * 64 + y) * 64 + z)) (at + 3)
          third = later_good s at (later 2 0x80 0xBF (x % 8 * 64 + y)) (at + 2) z second_of_four next (at + 3) (omega arith) k

          pub four_end : 63 < w → PointRead s at Bad
          four_end = later_bad s at (later 1 0x80 0xBF ((x % 8 * 64 + y) * 64 + z)) (at + 3) w third last

          pub four_point : (c : ℕ) → c ≡ ((x % 8 * 64 + y) * 64 + z) * 64 + w → w ≤ 63 → PointRead s at (Point c (at + 4))
          four_point c q m =
              read-point s at c (at + 4) (omega arith) (omega (arith, (last.0 m).0))
              (subst (λ (n : ℕ). Reading s at (point n) (at + 4)) (sym q) (later_good s at (later 1 0x80 0xBF ((x % 8 * 64 + y) * 64 + z)) (at + 3) w third last (at + 4) (omega arith) m))

-- a code point decoded, or the limit of them
module _ (s : List ℕ) (at size : ℕ) where
  pub coded_bad : PointRead s at Bad → CodeRead s at size point_limit
  coded_bad p = (λ h. absurd (omega (arith, h)), λ h. p)

  pub coded_point : (c : ℕ) → PointRead s at (Point c (at + size)) → CodeRead s at size c
  coded_point c p = (λ h. p, λ h. absurd (omega (arith, h, p.2)))

-- where a lead of two octets and the next one stand
pub stand_two : (s : List ℕ) (at x second : ℕ) → at < length s → x ≡ get_or s at 0 → second ≡ get_or s (at + 1) 0 → x < 0xE0 → StandAt s at x second 0 0
stand_two s at x second h e f k = (h, e, f, λ q. absurd (omega (arith, q, k)), λ q. absurd (omega (arith, q, k)))

-- how many octets a lead tells
module _ (x : ℕ) where
  size-two : 0x80 ≤ x → x < 0xE0 → size_of x ≡ 2
  size-two h k = rw (le-ltb x 0x80 h, lt-ltb x 0xE0 k)

  pub size_three : 0xE0 ≤ x → x < 0xF0 → size_of x ≡ 3
  size_three h k = let a : 0x80 ≤ x = omega arith in rw (le-ltb x 0x80 a, le-ltb x 0xE0 h, lt-ltb x 0xF0 k)

  pub size_four : 0xF0 ≤ x → size_of x ≡ 4
  size_four h =
      let a : 0x80 ≤ x = omega arith in
      let b : 0xE0 ≤ x = omega arith in
      rw (le-ltb x 0x80 a, le-ltb x 0xE0 b, le-ltb x 0xF0 h)

  module _ (second third fourth code : ℕ) where
    pub code_two : 0x80 ≤ x → x < 0xE0 → CodeOf 2 x second 0 0 code → CodeOf (size_of x) x second third fourth code
    code_two h k f s at p =
        subst (λ (n : ℕ). CodeRead s at n code) (sym (size-two h k)) (f s at (stand_two s at x second p.0 p.1 p.2 k))

    pub code_three : 0xE0 ≤ x → x < 0xF0 → CodeOf 3 x second third 0 code → CodeOf (size_of x) x second third fourth code
    code_three h k f s at p = subst (λ (n : ℕ). CodeRead s at n code) (sym (size_three h k)) (f s at (p.0, p.1, p.2, p.3, λ q. absurd (omega (arith, q, k))))

    pub code_four : 0xF0 ≤ x → CodeOf 4 x second third fourth code → CodeOf (size_of x) x second third fourth code
    code_four h f s at p = subst (λ (n : ℕ). CodeRead s at n code) (sym (size_four h)) (f s at p)

pub some-low : (b : Bool) (low its : ℕ) → 1 ≤ its → low ≡ cond b its 0x80 → 1 ≤ low
some-low true low its h e = omega (arith, h, e)
some-low false low its h e = omega (arith, e)

-- a text's code points by the one at an offset

pub end-points : (s : List ℕ) (at : ℕ) → length s ≤ at → points (drop at s) ≡ Some []
unfolding points_from
end-points s at h = rw (drop_of_length-le s)

pub some_more : (c : ℕ) (o : Option (List ℕ)) → is_some (option_map (λ cs. c ∷ cs) o) ≡ is_some o
some_more c None = refl
some_more c (Some cs) = refl

-- what can be read of a text that is UTF-8 is all of it
readable-from : (xs : List ℕ) (decoder : Decoder) (cs : List ℕ) → points_from decoder xs ≡ Some cs → readable_from decoder xs ≡ cs
unfolding points_from readable_from
readable-from [] between cs e = cc
readable-from [] (partway i) cs e = absurd (none_not_some cs e)
readable-from (x ∷ xs) decoder cs e = go (decode decoder x) e (λ n ds q. readable-from xs n ds q)
  where
    after : (c : ℕ) (r : Option (List ℕ)) → ((ds : List ℕ) → r ≡ Some ds → readable_from between xs ≡ ds) → option_map (λ ds. c ∷ ds) r ≡ Some cs → c ∷ readable_from between xs ≡ cs
    after c None f q = absurd (none_not_some cs q)
    after c (Some ds) f q = let k : c ∷ ds ≡ cs = cc in ap (λ (t : List ℕ). c ∷ t) (f ds refl) ∙ k

    go : (d : Decoded) → on_decoded d (λ n. points_from n xs) ≡ Some cs → ((n : Decoder) (ds : List ℕ) → points_from n xs ≡ Some ds → readable_from n xs ≡ ds)
        → read_on d (λ n. readable_from n xs) ≡ cs
    go bad q f = absurd (none_not_some cs q)
    go (point c) q f = after c (points_from between xs) (f between) q
    go (more i) q f = f (partway i) cs q

pub readable-points : (s cs : List ℕ) → points s ≡ Some cs → readable s ≡ cs
readable-points s cs e = readable-from s between cs e
