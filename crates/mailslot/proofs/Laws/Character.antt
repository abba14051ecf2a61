-- What a unit, or a pair of them, does to what is left of a user.
use Rattle.std.proofs.Common.{Option, None, Some, option_map}
use mathlib.Core.Path.{◌≡◌, refl, sym, ap, subst, ◌∙◌}
use mathlib.Core.Bool.{Bool, true, false, ◌&&◌, and-false}
use mathlib.Core.List.{List, [], ◌∷◌, ◌++◌, flat_map}
use Prim.Native.Nat.{ℕ, zero, suc, ◌+◌, ◌*◌, ◌-◌, ◌%◌, ◌≤◌, ◌<◌}
use native.Mathlib.Omega.{arith}
use lib.Dec.{leb, ltb}
use lib.ListN.{length, get_or, length-append, length-take, length-drop}
use borrow.Author.Tests.{ne_eqb, lt-leb, lt-ltb, le-ltb, ltb-true, ltb-false}
use Rattle.octets.specs.Lists.{all, cut, holds}
use Rattle.octets.specs.NameRule.{without, user_name_most}
use Rattle.octets.specs.Number.{little, u16_at}
use Rattle.octets.proofs.Laws.Lists.{cut-cons, cond_has}
use Rattle.octets.proofs.Laws.Number.{u16-octets}
use Rattle.octets.proofs.Laws.Text.{within_range, without_range}
use Rattle.unicode_text.specs.Utf8.{Partial, Decoder, between, partway, on_decoded, utf8_of}
use Rattle.unicode_text.specs.Utf16.{lead16, follow16, decode16, points_from16, points_of16}
use Rattle.unicode_text.proofs.Laws.OneText.{after_high_lem, lead_plain, lead_high, follow-low}
use Rattle.mailslot.specs.Internal.Runs.{user_left, Stops, Character, CharacterSize}

-- ---- by the code points that are left

abbrev left : ℕ → Option (List ℕ) → Bool
left size o = holds (λ cs. leb (size + length (flat_map utf8_of cs)) user_name_most && without 0 cs) o

left-point : (size c w : ℕ) (o : Option (List ℕ)) → 1 ≤ c → length (utf8_of c) ≡ w → left size (option_map (λ cs. c ∷ cs) o) ≡ left (size + w) o
unfolding flat_map all
left-point size c w None h e = refl
left-point size c w (Some cs) h e =
    let n : size + length (utf8_of c ++ flat_map utf8_of cs) ≡ size + w + length (flat_map utf8_of cs) = simp length-append (omega arith) in
    rw (ne_eqb c 0 (λ z. omega arith), n)

left-zero : (size : ℕ) (o : Option (List ℕ)) → left size (option_map (λ cs. 0 ∷ cs) o) ≡ false
unfolding all
left-zero size None = refl
left-zero size (Some cs) = and-false (leb (size + length (flat_map utf8_of (0 ∷ cs))) user_name_most)

-- too many octets are too many, whatever follows
pub left_over : (size : ℕ) (l : List ℕ) → user_name_most < size → user_left size l ≡ false
left_over size l h = go (points_of16 l)
  where
    go : (o : Option (List ℕ)) → left size o ≡ false
    go None = refl
    go (Some cs) = rw (lt-leb (size + length (flat_map utf8_of cs)) user_name_most (omega arith))

some-octets : (c : ℕ) → length (utf8_of c) ≡ 0 → ⊥
unfolding utf8_of
some-octets c =
    cond_has P (ltb c 0x80) _ _ (λ e q. omega arith) (λ e.
    cond_has P (ltb c 0x800) _ _ (λ f q. omega arith) (λ f.
    cond_has P (ltb c 0x10000) _ _ (λ g q. omega arith) (λ g q. omega arith)))
  where
    P : List ℕ → Type 0
    P x = length x ≡ 0 → ⊥

four_octets : (c : ℕ) → 0x10000 ≤ c → length (utf8_of c) ≡ 4
unfolding utf8_of
four_octets c h = rw (le-ltb c 0x80 (omega arith), le-ltb c 0x800 (omega arith), le-ltb c 0x10000 h)

pub three_octets : (c : ℕ) → 0x800 ≤ c → c < 0x10000 → length (utf8_of c) ≡ 3
unfolding utf8_of
three_octets c h k = rw (le-ltb c 0x80 (omega arith), le-ltb c 0x800 h, lt-ltb c 0x10000 k)

pub two-octets : (c : ℕ) → 0x80 ≤ c → c < 0x800 → length (utf8_of c) ≡ 2
unfolding utf8_of
two-octets c h k = rw (le-ltb c 0x80 h, lt-ltb c 0x800 k)

pub octet_alone : (c : ℕ) → c < 0x80 → length (utf8_of c) ≡ 1
unfolding utf8_of
octet_alone c h = rw (lt-ltb c 0x80 h)

-- ---- by the octets that are left

alone : (i : Partial) (l : List ℕ) → length l < 2 → points_from16 (partway i) l ≡ None
unfolding points_from16
alone i [] k = refl
alone i (x ∷ []) k = refl
alone i (x ∷ y ∷ l) k = absurd (omega arith)

module _ (s : List ℕ) (at : ℕ) where
  -- a stretch from its first unit on
  pub by_unit : (d : Decoder) (u m : ℕ) → u ≡ u16_at s at → at + 2 ≤ length s → points_from16 d (cut s at (2 + m)) ≡ on_decoded (decode16 d u) (λ n. points_from16 n (cut s (at + 2) m))
  unfolding points_from16 little
  by_unit d u m e h =
      let two : at + 1 + 1 ≡ at + 2 = omega arith in
      let octets : cut s at (2 + m) ≡ get_or s at 0 ∷ get_or s (at + 1) 0 ∷ cut s (at + 2) m =
      ap (λ (k : ℕ). cut s at k) (two-more m)
      ∙ cut-cons s at (suc m) 0 (omega arith)
      ∙ ap (λ (l : List ℕ). get_or s at 0 ∷ l) (cut-cons s (at + 1) m 0 (omega arith) ∙ ap (λ (i : ℕ). get_or s (at + 1) 0 ∷ cut s i m) two) in
      let unit : little (get_or s at 0 ∷ get_or s (at + 1) 0 ∷ []) ≡ u = omega (arith, u16-octets s at h) in
      ap (points_from16 d) octets ∙ ap (λ (v : ℕ). on_decoded (decode16 d v) (λ n. points_from16 n (cut s (at + 2) m))) unit
    where
      two-more : (m : ℕ) → 2 + m ≡ suc (suc m)
      two-more m = omega arith

  pub one_octet : (size : ℕ) → at < length s → user_left size (cut s at 1) ≡ false
  unfolding points_from16
  one_octet size h = rw (cut-cons s at 0 0 h)

  -- by the decoder's answer to the first unit
  left_unit : (u size m : ℕ) → u ≡ u16_at s at → at + 2 ≤ length s → user_left size (cut s at (2 + m)) ≡ left size (on_decoded (lead16 u) (λ n. points_from16 n (cut s (at + 2) m)))
  left_unit u size m e h = ap (left size) (by_unit between u m e h)

  -- no user goes on where none of two octets or more does
  stops_by : (size : ℕ) → at < length s → ((m : ℕ) → at + 2 + m ≤ length s → user_left size (cut s at (2 + m)) ≡ false) → Stops s at size
  stops_by size h f zero k = one_octet size h
  stops_by size h f (suc m) k = let e : suc (suc m) ≡ 2 + m = omega arith in rw e (f m (omega arith))

  module _ (u : ℕ) (e : u ≡ u16_at s at) (h : at + 2 ≤ length s) where
    lacking : ((size m : ℕ) → at + 2 + m ≤ length s → user_left size (cut s at (2 + m)) ≡ false) → CharacterSize s at 0
    lacking f = record { most = omega arith; stands = λ k. absurd (omega arith); lacks = λ q size. stops_by size (omega arith) (f size) }

    pub zero-lacks : u ≡ 0 → CharacterSize s at 0
    zero-lacks z =
        lacking (λ size m k.
        left_unit u size m e h
        ∙ rw (z, lead_plain 0 (λ q. omega arith)) (left-zero size (points_of16 (cut s (at + 2) m))))

    pub low-lacks : 0xDC00 ≤ u → u ≤ 0xDFFF → CharacterSize s at 0
    unfolding lead16
    low-lacks k n =
        lacking (λ size m l. left_unit u size m e h ∙ rw (without_range 0xD800 0xDBFF u (λ q. omega arith), within_range 0xDC00 0xDFFF u k n))

    -- a unit of its own
    pub plain_stands : (w : ℕ) → 1 ≤ u → (0xD800 ≤ u → 0xE000 ≤ u) → length (utf8_of u) ≡ w → w < 4 → CharacterSize s at w
    plain_stands w z k n l =
        record {
          most = omega arith;
          stands = λ q. subst (λ (i : ℕ). Character s at i w) (sym (rw (lt-ltb w 4 l))) stood;
          lacks = λ q. absurd (wide q);
        }
      where
        wide : w ≡ 0 → ⊥
        wide q = some-octets u (n ∙ q)

        stood : Character s at 2 w
        stood = record {
          some = λ q. omega arith;
          to = h;
          inside = λ size m a b. let one : m ≡ 1 = omega arith in rw one (one_octet size (omega arith));
          after = λ size m. left_unit u size m e h ∙ rw (lead_plain u k) (left-point size u w (points_of16 (cut s (at + 2) m)) z n);
        }

    module _ (k : 0xD800 ≤ u) (n : u ≤ 0xDBFF) where
      left-high : (size m : ℕ) → user_left size (cut s at (2 + m)) ≡ left size (points_from16 (partway (after_high_lem u)) (cut s (at + 2) m))
      left-high size m = left_unit u size m e h ∙ rw (lead_high u k n)

      -- less than a unit after it
      high-short : (size m : ℕ) → m < 2 → user_left size (cut s at (2 + m)) ≡ false
      high-short size m l =
          let q : length (cut s (at + 2) m) < 2 = simp (length-take, length-drop) (omega arith) in
          left-high size m ∙ ap (left size) (alone (after_high_lem u) (cut s (at + 2) m) q)

      pub high-alone : length s < at + 4 → CharacterSize s at 0
      high-alone l = lacking (λ size m q. high-short size m (omega arith))

-- a high surrogate, and a unit after it
module _ (s : List ℕ) (at u : ℕ) (e : u ≡ u16_at s at) (h : at + 4 ≤ length s) (k : 0xD800 ≤ u) (n : u ≤ 0xDBFF) (v : ℕ) (f : v ≡ u16_at s (at + 2)) where
  left_both : (size m : ℕ) → user_left size (cut s at (4 + m)) ≡ left size (on_decoded (follow16 (after_high_lem u) v) (λ d. points_from16 d (cut s (at + 4) m)))
  left_both size m =
      let four : 4 + m ≡ 2 + (2 + m) = omega arith in
      let next : at + 2 + 2 ≡ at + 4 = omega arith in
      ap (λ (i : ℕ). user_left size (cut s at i)) four
      ∙ left-high s at u e (omega arith) k n size (2 + m)
      ∙ ap (left size) (by_unit s (at + 2) (partway (after_high_lem u)) v m f (omega arith))
      ∙ ap (λ (i : ℕ). left size (on_decoded (follow16 (after_high_lem u) v) (λ d. points_from16 d (cut s i m)))) next

  stood : 0xDC00 ≤ v → v ≤ 0xDFFF → Character s at 4 4
  stood a b =
      let c : ℕ = (0x40 + u % 1024) * 1024 + v % 1024 in
      record {
        some = λ q. omega arith;
        to = h;
        inside = λ size m p q. go size m (ltb m 2) refl p q;
        after = λ size m. left_both size m ∙ rw (follow-low u v a b) (left-point size c 4 (points_of16 (cut s (at + 4) m)) (omega arith) (four_octets c (omega arith)));
      }
    where
      go : (size m : ℕ) (b : Bool) → ltb m 2 ≡ b → 1 ≤ m → m < 4 → user_left size (cut s at m) ≡ false
      go size m true p q r = let one : m ≡ 1 = omega (arith, ltb-true m 2 p) in rw one (one_octet s at size (omega arith))
      go size m false p q r =
          let more : m ≡ 2 + (m - 2) = omega (arith, ltb-false m 2 p) in
          rw more (high-short s at u e (omega arith) k n size (m - 2) (omega arith))

  pub pair_stands : 0xDC00 ≤ v → v ≤ 0xDFFF → CharacterSize s at 4
  pair_stands a b = record { most = omega arith; stands = λ q. stood a b; lacks = λ q. absurd (omega arith) }

  pub high-lone : (0xDC00 ≤ v → 0xE000 ≤ v) → CharacterSize s at 0
  unfolding follow16
  high-lone l = lacking s at u e (omega arith) (λ size m q. go size m (ltb m 2) refl)
    where
      go : (size m : ℕ) (b : Bool) → ltb m 2 ≡ b → user_left size (cut s at (2 + m)) ≡ false
      go size m true p = high-short s at u e (omega arith) k n size m (ltb-true m 2 p)
      go size m false p =
          let more : 2 + m ≡ 4 + (m - 2) = omega (arith, ltb-false m 2 p) in
          rw more (left_both size (m - 2) ∙ rw (without_range 0xDC00 0xDFFF v (λ k. omega (arith, l k))))
