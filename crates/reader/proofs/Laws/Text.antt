-- A text of UTF-16 units that ends in a zero unit is read as its stretch.
use Rattle.std.proofs.Common.{Ok, Err}
use mathlib.Core.Path.{◌≡◌, refl, sym, ap, ◌∙◌}
use mathlib.Core.Bool.{Bool, true, false, cond}
use mathlib.Core.List.{List, [], ◌∷◌, ◌++◌, append_assoc, flat_map}
use Prim.Native.Nat.{ℕ, zero, suc, ◌+◌, ◌-◌, ◌<◌, ◌≤◌}
use native.Mathlib.Omega.{arith}
use lib.Dec.{eqb, ltb}
use lib.ListN.{length, length-append}
use borrow.Author.Tests.{eq-eqb, ne_eqb, le-leb, lt-leb, ltb-true, ltb-false}
use Rattle.answers.specs.declared.Refusal.{Refusal}
use Rattle.answers.specs.Try.{Try, ◌>>=◌}
use Rattle.octets.proofs.Laws.Lists.{Every}
use Rattle.octets.specs.Number.{little, little_octets}
use Rattle.unicode_text.proofs.Laws.Utf8.{Scalar}
use Rattle.unicode_text.specs.Utf16.{high_unit, low_unit, point_octets, points_octets, is_high, is_low}
use Rattle.unicode_text.proofs.Laws.Utf16.{one_unit, two-units}
use Rattle.reader.specs.declared.field.Read.{Read}
use Rattle.reader.specs.Field.{read_octets}
use Rattle.reader.proofs.Laws.Field.{Left, octets_here, left_after, left-next, left-length}
use Rattle.octets.specs.declared.part.Stretch.{Stretch}
use Rattle.reader.specs.declared.text.Unit16.TheVariants.{Ends, Plain, High, Low}
use Rattle.reader.specs.declared.text.Turn.{Turn}
use Rattle.reader.specs.declared.text.Turn.TheVariants.{Stop, Go, Wrong}
use Rattle.reader.specs.declared.text.UnitStep.{UnitStep}
use Rattle.reader.specs.declared.text.UnitStep.TheVariants as step
use Rattle.reader.specs.Text.{unit_of, turn, on_turn, read_text_from, read_text}
use Rattle.reader.specs.Internal.Text.{step_to, unit_step}

-- ---- units

pub zero_unit : (u : ℕ) → u ≡ 0 → unit_of u ≡ Ends
unfolding unit_of
zero_unit u e = rw (eq-eqb u 0 e)

pub plain_unit : (c : ℕ) → 1 ≤ c → (0xD800 ≤ c → 0xE000 ≤ c) → unit_of c ≡ Plain
unfolding unit_of
plain_unit c some unique = split (ltb c 0xD800) refl
  where
    nonzero : c ≡ 0 → ⊥
    nonzero q = omega arith

    split : (b : Bool) → ltb c 0xD800 ≡ b → cond (eqb c 0) Ends (cond (is_high c) High (cond (is_low c) Low Plain)) ≡ Plain
    split true e =
        let h : c < 0xD800 = ltb-true c 0xD800 e in
        rw (ne_eqb c 0 nonzero, lt-leb 0xD800 c h, lt-leb 0xDC00 c (omega arith))
    split false e =
        let h : 0xD800 ≤ c = ltb-false c 0xD800 e in
        let g : 0xE000 ≤ c = unique h in
        rw (ne_eqb c 0 nonzero, le-leb 0xD800 c h, lt-leb c 0xDBFF (omega arith), le-leb 0xDC00 c (omega arith), lt-leb c 0xDFFF (omega arith))

pub high_unit_lem : (u : ℕ) → 0xD800 ≤ u → u ≤ 0xDBFF → unit_of u ≡ High
unfolding unit_of
high_unit_lem u a b =
    let n : u ≡ 0 → ⊥ = λ q. omega arith in
    rw (ne_eqb u 0 n, le-leb 0xD800 u a, le-leb u 0xDBFF b)

pub low_unit_lem : (u : ℕ) → 0xDC00 ≤ u → u ≤ 0xDFFF → unit_of u ≡ Low
unfolding unit_of
low_unit_lem u a b =
    let n : u ≡ 0 → ⊥ = λ q. omega arith in
    rw (ne_eqb u 0 n, le-leb 0xD800 u (omega arith), lt-leb u 0xDBFF (omega arith), le-leb 0xDC00 u a, le-leb u 0xDFFF b)

-- ---- a text

-- n octets from `at` on, then the zero unit
abbrev pub Got : ℕ → ℕ → ℕ → Try (Read Stretch)
Got start at n = Ok (record { value = record { start = start; len = at + n - start }; next = at + n + 2 })

module _ {s : List ℕ} (start : ℕ) where
  pub unit_step_lem : (k at a b u : ℕ) (rest : List ℕ) (h g : Bool) → Left s at ((a ∷ b ∷ []) ++ rest) → little (a ∷ b ∷ []) ≡ u → turn h (unit_of u) ≡ Go g
      → read_text_from (suc k) s start at h ≡ read_text_from k s start (at + 2) g
  unfolding read_text_from
  unit_step_lem k at a b u rest h g l e t = rw (octets_here (a ∷ b ∷ []) rest 2 refl l, e, t)

  pub zero-step : (k at : ℕ) (rest : List ℕ) → Left s at (little_octets 2 0 ++ rest) → read_text_from (suc k) s start at false ≡ Got start at 0
  unfolding read_text_from little_octets little unit_of
  zero-step k at rest l =
      let e : at ≡ at + 0 = omega arith in
      rw (octets_here (little_octets 2 0) rest 2 refl l) (ap (λ (x : ℕ). Ok (record { value = record { start = start; len = x - start }; next = x + 2 })) e)

  units-read : (cs : List ℕ) (k at : ℕ) (rest : List ℕ) → length (points_octets cs) < k → Every Scalar cs → Left s at (points_octets cs ++ (little_octets 2 0 ++ rest))
      → read_text_from k s start at false ≡ Got start at (length (points_octets cs))
  unfolding flat_map
  units-read [] zero at rest f ok l = absurd (omega arith)
  units-read [] (suc k) at rest f ok l = zero-step k at rest l
  units-read (c ∷ cs) zero at rest f ok l = absurd (omega arith)
  units-read (c ∷ cs) (suc k) at rest f ok l = split (ltb c 0x10000) refl (λ j a p q. units-read cs j a rest p ok.1 q)
    where
      after : List ℕ
      after = points_octets cs ++ (little_octets 2 0 ++ rest)

      Deeper : Type 0
      Deeper = (j a : ℕ) → length (points_octets cs) < j → Left s a after → read_text_from j s start a false ≡ Got start a (length (points_octets cs))

      Due : ℕ → Type 0
      Due k = read_text_from (suc k) s start at false ≡ Got start at (length (point_octets c ++ points_octets cs))

      moved : (n : ℕ) → length (point_octets c) ≡ n → Got start (at + n) (length (points_octets cs)) ≡ Got start at (length (point_octets c ++ points_octets cs))
      moved n e =
          let m : length (point_octets c ++ points_octets cs) ≡ length (point_octets c) + length (points_octets cs) = length-append (point_octets c) (points_octets cs) in
          let y : at + n + length (points_octets cs) ≡ at + length (point_octets c ++ points_octets cs) = omega arith in
          ap (λ (z : ℕ). Ok (record { value = record { start = start; len = z - start }; next = z + 2 })) y

      here : Left s at (point_octets c ++ after)
      here = rw (append_assoc (point_octets c) (points_octets cs) (little_octets 2 0 ++ rest)) at l

      one : c < 0x10000 → Deeper → Due k
      one h d =
          let u = one_unit c h in
          let m : Left s at ((u.0 ∷ u.1 ∷ []) ++ after) = rw u.2 at here in
          let t : turn false (unit_of c) ≡ Go false = rw (plain_unit c ok.0.some ok.0.unique) in
          let n : length (point_octets c) ≡ 2 = ap length u.2 in
          let fewer : length (points_octets cs) < k = omega (arith, length-append (point_octets c) (points_octets cs)) in
          unit_step_lem k at u.0 u.1 c after false false m u.3 t ∙ d k (at + 2) fewer (left-next (u.0 ∷ u.1 ∷ []) after 2 refl m) ∙ moved 2 n

      two : (k : ℕ) → length (point_octets c ++ points_octets cs) < suc k → 0x10000 ≤ c → Deeper → Due k
      two zero f h d = absurd (omega (arith, length-append (point_octets c) (points_octets cs), ap length (two-units c h ok.0.below).4))
      two (suc k) f h d =
          let u = two-units c h ok.0.below in
          let m : Left s at ((u.0 ∷ u.1 ∷ []) ++ ((u.2 ∷ u.3 ∷ []) ++ after)) = rw u.4 at here in
          let m2 : Left s (at + 2) ((u.2 ∷ u.3 ∷ []) ++ after) = left-next (u.0 ∷ u.1 ∷ []) ((u.2 ∷ u.3 ∷ []) ++ after) 2 refl m in
          let m3 : Left s (at + 2 + 2) after = left-next (u.2 ∷ u.3 ∷ []) after 2 refl m2 in
          let below : c < 0x110000 = ok.0.below in
          let hi : turn false (unit_of (high_unit c)) ≡ Go true = rw (high_unit_lem (high_unit c) (omega arith) (omega arith)) in
          let lo : turn true (unit_of (low_unit c)) ≡ Go false = rw (low_unit_lem (low_unit c) (omega arith) (omega arith)) in
          let n : length (point_octets c) ≡ 4 = ap length u.4 in
          let fewer : length (points_octets cs) < k = omega (arith, length-append (point_octets c) (points_octets cs)) in
          let four : at + 2 + 2 ≡ at + 4 = omega arith in
          unit_step_lem (suc k) at u.0 u.1 (high_unit c) ((u.2 ∷ u.3 ∷ []) ++ after) false true m u.5 hi
          ∙ unit_step_lem k (at + 2) u.2 u.3 (low_unit c) after true false m2 u.6 lo
          ∙ d k (at + 2 + 2) fewer m3
          ∙ ap (λ (x : ℕ). Got start x (length (points_octets cs))) four
          ∙ moved 4 n

      split : (b : Bool) → ltb c 0x10000 ≡ b → Deeper → Due k
      split true e d = one (ltb-true c 0x10000 e) d
      split false e d = two k f (ltb-false c 0x10000 e) d

-- the text that stands here, as its stretch, and what is left after it
pub text_here : {s : List ℕ} {at : ℕ} (cs rest : List ℕ) → Every Scalar cs → Left s at (points_octets cs ++ (little_octets 2 0 ++ rest))
    → read_text s at ≡ Ok (record { value = record { start = at; len = length (points_octets cs) }; next = at + length (points_octets cs) + 2 })
unfolding read_text
text_here {s} {at} cs rest ok l =
    let n : length s ≡ at + (length (points_octets cs) + length (little_octets 2 0 ++ rest)) = left-length (points_octets cs ++ (little_octets 2 0 ++ rest)) l ∙ simp length-append in
    let e : at + length (points_octets cs) - at ≡ length (points_octets cs) = omega arith in
    units-read at cs (suc (length s)) at rest (omega arith) ok l
    ∙ ap (λ (x : ℕ). Ok (record { value = record { start = at; len = x }; next = at + length (points_octets cs) + 2 })) e

pub text-after : {s : List ℕ} {at : ℕ} (x rest : List ℕ) → Left s at (x ++ (little_octets 2 0 ++ rest)) → Left s (at + length x + 2) rest
unfolding little_octets
text-after x rest l = left-next (little_octets 2 0) rest 2 refl (left_after x (little_octets 2 0 ++ rest) l)

-- ---- unit by unit, as the code reads it

module _ (s : List ℕ) (start : ℕ) where
  -- what is left of the reading after a unit at an offset
  abbrev after : ℕ → ℕ → Try UnitStep → Try (Read Stretch)
  after k at (Ok (step.Stop next)) = Ok (record { value = record { start = start; len = at - start }; next = next })
  after k at (Ok (step.Go after_high_lem next)) = read_text_from k s start next after_high_lem
  after k at (Err r) = Err r

  one-turn : (k at : ℕ) (h : Bool) → read_text_from (suc k) s start at h ≡ after k at (unit_step s at h)
  unfolding read_text_from unit_step
  one-turn k at h = go (read_octets s at 2)
    where
      turned : (next : ℕ) (t : Turn) → on_turn t (Ok (record { value = record { start = start; len = at - start }; next = next })) (λ g. read_text_from k s start next g) ≡ after k at (step_to next t)
      turned next Stop = refl
      turned next (Go g) = refl
      turned next Wrong = refl

      go : (u : Try (Read (List ℕ)))
          → (u >>= λ x. on_turn (turn h (unit_of (little x.value))) (Ok (record { value = record { start = start; len = at - start }; next = x.next })) (λ g. read_text_from k s start x.next g))
          ≡ after k at (u >>= λ x. step_to x.next (turn h (unit_of (little x.value))))
      go (Err r) = refl
      go (Ok x) = turned x.next (turn h (unit_of (little x.value)))

  -- the reading goes on at an offset, with units enough
  pub record TextLeft (at : ℕ) (after_high_lem : Bool) : Type 0 where
    pub turns : ℕ
    pub enough : length s + start < turns + at
    pub from : start ≤ at
    pub to : at ≤ length s + start
    pub left : read_text_from turns s start at after_high_lem ≡ read_text s start

  pub text-start : TextLeft start false
  unfolding read_text
  text-start = record { turns = suc (length s); enough = omega arith; from = omega arith; to = omega arith; left = refl }

  -- some unit leads to what the reading gives
  leads : (at : ℕ) (h : Bool) (t : TextLeft at h) → (k : ℕ) × (t.turns ≡ suc k) × (after k at (unit_step s at h) ≡ read_text s start)
  leads at h t = go t.turns refl
    where
      go : (n : ℕ) → t.turns ≡ n → (k : ℕ) × (t.turns ≡ suc k) × (after k at (unit_step s at h) ≡ read_text s start)
      go zero e = absurd (omega (arith, t.enough, t.to))
      go (suc k) e = (k, e, sym (one-turn k at h) ∙ sym (ap (λ (n : ℕ). read_text_from n s start at h) e) ∙ t.left)

  module _ {at : ℕ} {h : Bool} (t : TextLeft at h) where
    pub text_stop : (next : ℕ) → unit_step s at h ≡ Ok (step.Stop next) → read_text s start ≡ Ok (record { value = record { start = start; len = at - start }; next = next })
    text_stop next e = let l = leads at h t in sym l.2 ∙ ap (after l.0 at) e

    pub text-refused : (r : Refusal) → unit_step s at h ≡ Err r → read_text s start ≡ Err r
    text-refused r e = let l = leads at h t in sym l.2 ∙ ap (after l.0 at) e

    pub text_go : (g : Bool) (next : ℕ) → unit_step s at h ≡ Ok (step.Go g next) → next ≡ at + 2 → next ≤ length s → TextLeft next g
    text_go g next e two within =
        let l = leads at h t in
        record {
          turns = l.0;
          enough = omega (arith, t.enough, l.1);
          from = omega (arith, t.from);
          to = omega arith;
          left = sym (ap (after l.0 at) e) ∙ l.2;
        }
