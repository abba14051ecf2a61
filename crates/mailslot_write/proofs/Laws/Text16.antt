-- A text in UTF-16LE that has code points, none of them zero, is read back whole where a zero unit ends it.
use Rattle.std.proofs.Common.{Ok, Option, None, Some, option_map}
use mathlib.Core.Path.{◌≡◌, refl, sym, ap, ◌∙◌}
use mathlib.Core.Bool.{Bool, true, false, cond, not}
use mathlib.Core.List.{List, [], ◌∷◌, ◌++◌}
use Rattle.octets.proofs.Laws.Option.{mapped_some}
use Prim.Native.Nat.{ℕ, zero, suc, ◌+◌, ◌-◌, ◌*◌, ◌%◌, ◌<◌, ◌≤◌}
use native.Mathlib.Omega.{arith}
use lib.Dec.{eqb}
use lib.ListN.{length, length-append}
use borrow.Author.Tests.{not-true}
use Rattle.octets.specs.{Lists.all, Lists.holds, NameRule.without, Number.little, Number.little_octets, Text.within}
use Rattle.octets.proofs.Laws.Lists.{both_left, both_right, true_not_false, none_not_some}
use Rattle.octets.proofs.Laws.Text.{within_low, within-high}
use Rattle.unicode_text.specs.Utf8.{Partial, bad, point, opens, Decoder, between, partway, on_decoded}
use Rattle.unicode_text.specs.Utf16.{is_high, is_low, lead16, follow16, decode16, points_from16, points_of16}
use Rattle.reader.specs.declared.text.Turn.TheVariants.{Go}
use Rattle.reader.specs.Text.{unit_of, turn, read_text_from, read_text}
use Rattle.reader.proofs.Laws.Field.{Left, left-next, left-length}
use Rattle.reader.proofs.Laws.Text.{Got, high_unit_lem, low_unit_lem, unit_step_lem, zero-step}
use Rattle.mailslot.specs.Message.{is_text16}

-- ---- a unit, as the reader of a text and the decoder take it

-- the reader looks for a low surrogate where the decoder is within a character
abbrev is_within : Decoder → Bool
is_within between = false
is_within (partway i) = true

abbrev WantsLow : Decoder → Type 0
WantsLow between = Unit {0}
WantsLow (partway i) = (i.low ≡ 0xDC00) × (i.high ≡ 0xDFFF)

-- both go on after the unit u, and the code points that are left have no zero
record Goes (d : Decoder) (u : ℕ) (rest : Decoder → Option (List ℕ)) : Type 0 where
  pub next : Decoder
  pub points : List ℕ
  pub turns : turn (is_within d) (unit_of u) ≡ Go (is_within next)
  pub wants : WantsLow next
  pub left : rest next ≡ Some points
  pub nonzero : without 0 points ≡ true

-- a code point before the others
first-point : (c : ℕ) (cs : List ℕ) (o : Option (List ℕ)) → option_map (λ xs. c ∷ xs) o ≡ Some cs → without 0 cs ≡ true
    → (xs : List ℕ) × (o ≡ Some xs) × (eqb c 0 ≡ false) × (without 0 xs ≡ true)
unfolding all
first-point c cs o e z =
    let r = mapped_some (λ xs. c ∷ xs) o e in
    let w : without 0 (c ∷ r.0) ≡ true = ap (without 0) r.2 ∙ z in
    (r.0, r.1, not-true (eqb c 0) (both_left (not (eqb c 0)) (without 0 r.0) w), both_right (not (eqb c 0)) (without 0 r.0) w)

module _ (u : ℕ) (cs : List ℕ) (rest : Decoder → Option (List ℕ)) (z : without 0 cs ≡ true) where
  goes_between : on_decoded (lead16 u) rest ≡ Some cs → Goes between u rest
  unfolding lead16 unit_of
  goes_between = high (is_high u) refl
    where
      opened : Decoder
      opened = partway (record { left = 1; low = 0xDC00; high = 0xDFFF; bits = 0x40 + u % 1024 })

      plain : is_high u ≡ false → is_low u ≡ false → on_decoded (point u) rest ≡ Some cs → Goes between u rest
      plain h l e =
          let f = first-point u cs (rest between) e z in
          record { next = between; points = f.0; turns = rw (f.2, h, l); wants = tt; left = f.1; nonzero = f.3 }

      low : (b : Bool) → is_low u ≡ b → is_high u ≡ false → on_decoded (cond b bad (point u)) rest ≡ Some cs → Goes between u rest
      low true l h e = absurd (none_not_some cs e)
      low false l h e = plain h l e

      high : (b : Bool) → is_high u ≡ b → on_decoded (cond b (opens 1 0xDC00 0xDFFF (0x40 + u % 1024)) (cond (is_low u) bad (point u))) rest ≡ Some cs → Goes between u rest
      high true h e =
          let t : turn false (unit_of u) ≡ Go true = rw (high_unit_lem u (within_low 0xD800 0xDBFF u h) (within-high 0xD800 0xDBFF u h)) in
          record { next = opened; points = cs; turns = t; wants = (refl, refl); left = e; nonzero = z }
      high false h e = low (is_low u) refl h e

  goes_within : (i : Partial) → WantsLow (partway i) → on_decoded (follow16 i u) rest ≡ Some cs → Goes (partway i) u rest
  unfolding follow16
  goes_within i w = low (within i.low i.high u) refl
    where
      c : ℕ
      c = i.bits * 1024 + u % 1024

      low : (b : Bool) → within i.low i.high u ≡ b → on_decoded (cond b (point c) bad) rest ≡ Some cs → Goes (partway i) u rest
      low false l e = absurd (none_not_some cs e)
      low true l e =
          let f = first-point c cs (rest between) e z in
          let a : 0xDC00 ≤ u = omega (arith, w.0, within_low i.low i.high u l) in
          let b : u ≤ 0xDFFF = omega (arith, w.1, within-high i.low i.high u l) in
          record { next = between; points = f.0; turns = rw (low_unit_lem u a b); wants = tt; left = f.1; nonzero = f.3 }

goes : (d : Decoder) (u : ℕ) (cs : List ℕ) (rest : Decoder → Option (List ℕ)) → WantsLow d → without 0 cs ≡ true → on_decoded (decode16 d u) rest ≡ Some cs → Goes d u rest
goes between u cs rest w z e = goes_between u cs rest z e
goes (partway i) u cs rest w z e = goes_within u cs rest z i w e

-- ---- a text

module _ {s : List ℕ} (start : ℕ) where
  units_here : (t : List ℕ) (d : Decoder) (cs : List ℕ) (k at : ℕ) (rest : List ℕ) → WantsLow d → without 0 cs ≡ true → points_from16 d t ≡ Some cs → length t < k → Left s at (t ++ (little_octets 2 0 ++ rest))
      → read_text_from k s start at (is_within d) ≡ Got start at (length t)
  unfolding points_from16
  units_here [] d cs zero at rest w z e f l = absurd (omega arith)
  units_here [] between cs (suc k) at rest w z e f l = zero-step start k at rest l
  units_here [] (partway i) cs (suc k) at rest w z e f l = absurd (none_not_some cs e)
  units_here (a ∷ []) d cs k at rest w z e f l = absurd (none_not_some cs e)
  units_here (a ∷ b ∷ t) d cs zero at rest w z e f l = absurd (omega arith)
  units_here (a ∷ b ∷ t) d cs (suc k) at rest w z e f l =
      let u : ℕ = little (a ∷ b ∷ []) in
      let after : List ℕ = t ++ (little_octets 2 0 ++ rest) in
      let g : Goes d u (λ next. points_from16 next t) = goes d u cs (λ next. points_from16 next t) w z e in
      let y : at + 2 + length t ≡ at + length (a ∷ b ∷ t) = omega arith in
      unit_step_lem start k at a b u after (is_within d) (is_within g.next) l refl g.turns
      ∙ units_here t g.next g.points k (at + 2) rest g.wants g.nonzero g.left (omega arith) (left-next (a ∷ b ∷ []) after 2 refl l)
      ∙ ap (λ (x : ℕ). Ok (record { value = record { start = start; len = x - start }; next = x + 2 })) y

pub text16_here : {s : List ℕ} {at : ℕ} (t rest : List ℕ) → is_text16 t ≡ true → Left s at (t ++ (little_octets 2 0 ++ rest))
    → read_text s at ≡ Ok (record { value = record { start = at; len = length t }; next = at + length t + 2 })
unfolding read_text
text16_here {s} {at} t rest e l = go (points_of16 t) refl e
  where
    go : (o : Option (List ℕ)) → points_of16 t ≡ o → holds (without 0) o ≡ true → read_text_from (suc (length s)) s at at false ≡ Ok (record { value = record { start = at; len = length t }; next = at + length t + 2 })
    go None q z = absurd (true_not_false (sym z))
    go (Some cs) q z =
        let n : length s ≡ at + (length t + length (little_octets 2 0 ++ rest)) = left-length (t ++ (little_octets 2 0 ++ rest)) l ∙ simp length-append in
        let y : at + length t - at ≡ length t = omega arith in
        units_here at t between cs (suc (length s)) at rest tt z q (omega arith) l
        ∙ ap (λ (x : ℕ). Ok (record { value = record { start = at; len = x }; next = at + length t + 2 })) y
