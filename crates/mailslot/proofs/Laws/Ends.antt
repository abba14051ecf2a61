-- Where a text that was read ends: at a zero unit, or at a zero octet.
use Rattle.std.proofs.Common.{Ok, Option, None, Some, option_map}
use mathlib.Core.Path.{◌≡◌, refl, sym, ap, ap₂, ◌∙◌, subst}
use mathlib.Core.Bool.{Bool, true, false, cond}
use mathlib.Core.List.{List, [], ◌∷◌, ◌++◌}
use Prim.Native.Nat.{ℕ, zero, suc, ◌+◌, ◌*◌, ◌-◌, ◌%◌, ◌≤◌, ◌<◌}
use native.Mathlib.Omega.{arith}
use lib.Dec.{eqb, leb}
use lib.ListN.{length, get_or, drop, length-drop, take-append-drop}
use lib.Seq.{drop-drop, drop-cons, get_or-drop}
use borrow.Author.Tests.{eqb-true, eqb-false, ne_eqb}
use Rattle.answers.specs.declared.Refusal.TheVariants.{ReplyCut, ReplyText}
use Rattle.answers.proofs.Laws.Try.{good_then, refused_not_good, good-same}
use Rattle.octets.specs.{Lists.all, Lists.cut, Lists.holds, NameRule.without}
use Rattle.octets.specs.Number.{little, u16_at}
use Rattle.octets.proofs.Laws.Lists.{both_left, both_right, cut-length}
use Rattle.octets.proofs.Laws.Text.{within_low}
use Rattle.unicode_text.specs.Utf8.{Decoder, between, partway, on_decoded}
use Rattle.unicode_text.specs.Utf16.{is_high, is_low, lead16, follow16, decode16, points_from16}
use Rattle.unicode_text.proofs.Laws.OneText.{after_high_lem}
use Rattle.octets.specs.{declared.part.Stretch.Stretch, Stretch.stretch_of}
use Rattle.reader.specs.declared.field.Read.{Read}
use Rattle.reader.specs.Field.{read_octets, read_stretch}
use Rattle.octets.specs.declared.part.Stretch.{Stretch}
use Rattle.reader.specs.declared.text.Unit16.TheVariants.{Ends, Plain, High, Low}
use Rattle.reader.specs.Text.{unit_of, turn, on_turn, read_text_from, read_text}
use Rattle.mailslot.specs.Message.{is_text16, is_mailslot_name, before_zero, read_zero_ended}
use Rattle.mailslot.specs.Internal.Runs.{of_name}
use Rattle.mailslot.specs.Internal.Shape.{EndsName}
use Rattle.mailslot.proofs.Laws.Character.{by_unit}
use Rattle.mailslot.proofs.Laws.Field.{octets_there, octets-read, stretch_there, stretch_read}

-- ---- a text of UTF-16LE

abbrev pub text_field : ℕ → ℕ → Read Stretch
text_field start end = record { value = record { start = start; len = end - start }; next = end + 2 }

-- a text from `at` on, read by a decoder: it ends at a zero unit, and has code points up to there, none of them zero
pub record TextTo (s : List ℕ) (at : ℕ) (d : Decoder) : Type 0 where
  pub end : ℕ
  pub from : at ≤ end
  pub to : end + 2 ≤ length s
  pub zero : u16_at s end ≡ 0
  pub points : holds (without 0) (points_from16 d (cut s at (end - at))) ≡ true

-- the decoder that stands where the reader does, after a high surrogate or not
abbrev Stands : Bool → Decoder → Type 0
Stands false between = Unit {0}
Stands false (partway i) = ⊥
Stands true between = ⊥
Stands true (partway i) = (i.low ≡ 0xDC00) × (i.high ≡ 0xDFFF) × (1 ≤ i.bits)

some-point : (c : ℕ) (o : Option (List ℕ)) → 1 ≤ c → holds (without 0) (option_map (λ cs. c ∷ cs) o) ≡ holds (without 0) o
unfolding all
some-point c None h = refl
some-point c (Some cs) h = rw (ne_eqb c 0 (λ z. omega arith))

module _ (s : List ℕ) (start : ℕ) (f : Read Stretch) where
  abbrev Got : ℕ → Decoder → Type 0
  Got at d = (t : TextTo s at d) × (f ≡ text_field start t.end)

  -- one unit further
  unit_further : (at : ℕ) (d n : Decoder) → at + 2 ≤ length s
      → ((o : Decoder → Option (List ℕ)) → holds (without 0) (on_decoded (decode16 d (u16_at s at)) o) ≡ holds (without 0) (o n))
      → Got (at + 2) n → Got at d
  unit_further at d n l led g =
      let m : ℕ = g.0.end - (at + 2) in
      let k : g.0.end - at ≡ 2 + m = omega (arith, g.0.from) in (
        record {
          end = g.0.end;
          from = omega (arith, g.0.from);
          to = g.0.to;
          zero = g.0.zero;
          points = ap (λ (i : ℕ). holds (without 0) (points_from16 d (cut s at i))) k
              ∙ ap (holds (without 0)) (by_unit s at d (u16_at s at) m refl l)
              ∙ led (λ x. points_from16 x (cut s (at + 2) m))
              ∙ g.0.points;
        },
        g.1,
      )

  text-from : (k at : ℕ) (h : Bool) (d : Decoder) → Stands h d → read_text_from k s start at h ≡ Ok f → Got at d
  unfolding read_text_from unit_of points_from16 all lead16 follow16
  text-from zero at h d w e = absurd (refused_not_good ReplyCut f e)
  text-from (suc k) at h d w e =
      let o = good_then (read_octets s at 2) _ f e in
      let g = octets-read s at 2 o.0 o.1 in
      let here = subst After g.1 o.2 in
      by h d (eqb u 0) (is_high u) (is_low u) w refl refl refl here (λ h d w q. text-from k (at + 2) h d w q) g.0
    where
      u : ℕ
      u = u16_at s at

      After : Read (List ℕ) → Type 0
      After x =
          on_turn (turn h (unit_of (little x.value))) (Ok (record { value = record { start = start; len = at - start }; next = x.next })) (λ g. read_text_from k s start x.next g)
          ≡ Ok f

      by : (h : Bool) (d : Decoder) (end p q : Bool) → Stands h d → eqb u 0 ≡ end → is_high u ≡ p → is_low u ≡ q
          → on_turn (turn h (cond end Ends (cond p High (cond q Low Plain)))) (Ok (text_field start at)) (λ g. read_text_from k s start (at + 2) g) ≡ Ok f
          → ((g : Bool) (n : Decoder) → Stands g n → read_text_from k s start (at + 2) g ≡ Ok f → Got (at + 2) n)
          → at + 2 ≤ length s
          → Got at d
      by false between true p q w z hi lo e deeper l =
          let None : at - at ≡ 0 = omega arith in
          (record { end = at; from = omega arith; to = l; zero = eqb-true u 0 z; points = ap (λ (i : ℕ). holds (without 0) (points_from16 between (cut s at i))) None }, sym (good-same e))
      by false between false true q w z hi lo e deeper l =
          unit_further at between (partway (after_high_lem u)) l (λ o. rw hi) (deeper true (partway (after_high_lem u)) (refl, refl, omega arith) e)
      by false between false false true w z hi lo e deeper l = absurd (refused_not_good ReplyText f e)
      by false between false false false w z hi lo e deeper l =
          unit_further at between between l (λ o. rw (hi, lo) (some-point u (o between) (omega (arith, eqb-false u 0 z)))) (deeper false between tt e)
      by true (partway i) true p q w z hi lo e deeper l = absurd (refused_not_good ReplyText f e)
      by true (partway i) false true q w z hi lo e deeper l = absurd (refused_not_good ReplyText f e)
      by true (partway i) false false true w z hi lo e deeper l =
          let c : ℕ = i.bits * 1024 + u % 1024 in
          unit_further at (partway i) between l (λ o. rw (w.0, w.1, lo) (some-point c (o between) (omega (arith, w.2)))) (deeper false between tt e)
      by true (partway i) false false false w z hi lo e deeper l = absurd (refused_not_good ReplyText f e)
      by false (partway i) end p q w z hi lo e deeper l = absurd w
      by true between end p q w z hi lo e deeper l = absurd w

  pub text-got : read_text s start ≡ Ok f → Got start between
  unfolding read_text
  text-got e = text-from (suc (length s)) start false between tt e

  -- where a text is read its octets have code points, and none is zero
  pub text_is_text : read_text s start ≡ Ok f → is_text16 (stretch_of s f.value) ≡ true
  text_is_text e = let g = text-got e in subst (λ (x : Read Stretch). is_text16 (stretch_of s x.value) ≡ true) (sym g.1) g.0.points

-- ---- a text that a zero octet ends

abbrev pub name_field : ℕ → ℕ → Read Stretch
name_field start end = record { value = record { start = start; len = end - start }; next = end + 1 }

pub record ZeroOctet (s : List ℕ) (start : ℕ) : Type 0 where
  pub end : ℕ
  pub from : start ≤ end
  pub to : end + 1 ≤ length s
  pub zero : get_or s end 0 ≡ 0

zero_there : (l : List ℕ) → length (before_zero l) < length l → get_or l (length (before_zero l)) 0 ≡ 0
unfolding before_zero
zero_there [] h = absurd (omega arith)
zero_there (x ∷ l) h = go (eqb x 0) refl h (zero_there l)
  where
    go : (b : Bool) → eqb x 0 ≡ b → length (cond b [] (x ∷ before_zero l)) < suc (length l) → (length (before_zero l) < length l → get_or l (length (before_zero l)) 0 ≡ 0)
        → get_or (x ∷ l) (length (cond b [] (x ∷ before_zero l))) 0 ≡ 0
    go true e h d = eqb-true x 0 e
    go false e h d = d (omega arith)

pub name-got : (s : List ℕ) (start : ℕ) (f : Read Stretch) → read_zero_ended s start ≡ Ok f → (z : ZeroOctet s start) × (f ≡ name_field start z.end)
unfolding read_zero_ended
name-got s start f e =
    let n : ℕ = length (before_zero (drop start s)) in
    let t = good_then (read_stretch s start n) _ f e in
    let z = good_then (read_octets s t.0.next 1) _ f t.2 in
    let p = stretch_read s start n t.0 t.1 in
    let q = octets-read s t.0.next 1 z.0 z.1 in
    let a : t.0.next ≡ start + n = ap (λ (x : Read Stretch). x.next) p.1 in
    let l : n < length (drop start s) = simp length-drop (omega arith) in
    let m : start + n - start ≡ n = omega arith in
    let v : t.0.value ≡ record { start = start; len = start + n - start } = ap (λ (x : Read Stretch). x.value) p.1 ∙ ap (λ (k : ℕ). record { start = start; len = k }) (sym m) in
    let w : z.0.next ≡ start + n + 1 = ap (λ (x : Read (List ℕ)). x.next) q.1 ∙ ap (λ (k : ℕ). k + 1) a in
    let o : start + n + 1 ≤ length s = omega arith in (
      record { end = start + n; from = omega arith; to = o; zero = sym (get_or-drop start s n 0) ∙ zero_there (drop start s) l },
      sym (good-same z.2) ∙ ap₂ (λ (x : Stretch) (y : ℕ). record { value = x; next = y }) v w,
    )

pub name-before : (x rest : List ℕ) → all of_name x ≡ true → before_zero (x ++ 0 ∷ rest) ≡ x
unfolding before_zero all
name-before [] rest e = refl
name-before (c ∷ x) rest e =
    let a : 1 ≤ c = within_low 1 0x7F c (both_left (of_name c) (all of_name x) e) in
    rw (ne_eqb c 0 (λ z. omega arith), name-before x rest (both_right (of_name c) (all of_name x) e))

pub name-read : (s : List ℕ) (start end : ℕ) → EndsName s start end → read_zero_ended s start ≡ Ok (name_field start end)
unfolding read_zero_ended is_mailslot_name
name-read s start end n =
    let k : ℕ = end - start in
    let x : List ℕ = cut s start k in
    let at : start + k ≡ end = omega (arith, n.from) in
    let more : end < length s = omega (arith, n.to) in
    let rest : drop k (drop start s) ≡ 0 ∷ drop (suc end) s = drop-drop k start s ∙ ap (λ (i : ℕ). drop i s) at ∙ drop-cons s end 0 more ∙ ap (λ (z : ℕ). z ∷ drop (suc end) s) n.zero in
    let whole : drop start s ≡ x ++ 0 ∷ drop (suc end) s = sym (take-append-drop k (drop start s)) ∙ ap (λ (l : List ℕ). x ++ l) rest in
    let before : before_zero (drop start s) ≡ x = ap before_zero whole ∙ name-before x (drop (suc end) s) (both_right (leb (length x) 64) (all of_name x) n.name) in
    let sized : length (before_zero (drop start s)) ≡ k = ap length before ∙ cut-length s start k (omega arith) in
    let one : start + k + 1 ≡ end + 1 = omega arith in
    rw (sized, stretch_there s start k (omega arith), octets_there s (start + k) 1 (omega arith), one)
