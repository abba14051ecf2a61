-- A text of UTF-16LE: a user by its octets of UTF-8, a computer by its units; and one that its zero unit ends is read as its stretch.
use Rattle.std.proofs.Common.{Ok, Option, None, Some, option_map}
use mathlib.Core.Path.{◌≡◌, refl, sym, ap, ap₂, ◌∙◌}
use mathlib.Core.Bool.{true, not, ◌&&◌, and-true}
use mathlib.Core.List.{List, [], ◌∷◌, ◌++◌, flat_map}
use Prim.Native.Nat.{ℕ, zero, suc, ◌+◌, ◌*◌, ◌-◌, ◌≤◌, ◌<◌}
use native.Mathlib.Nat.{zero-add}
use native.Mathlib.Omega.{arith}
use lib.Dec.{eqb, leb, ltb}
use lib.ListN.{length, take, drop, take-append-drop}
use lib.Seq.{drop-drop, length-take-le}
use borrow.Author.Tests.{leb-true, le-leb, ltb-true, eqb-false, not-true}
use Rattle.octets.specs.{Lists.all, Lists.cut, Lists.holds, NameRule.without, NameRule.user_name_most}
use Rattle.octets.specs.Number.{little_octets, u16_at}
use Rattle.octets.proofs.Laws.Lists.{Every, every_all, every_take, cut-length, both_left, both_right, true_not_false}
use Rattle.reader.specs.Text.{read_text}
use Rattle.reader.proofs.Laws.Field.{Left}
use Rattle.reader.proofs.Laws.Text.{text_here}
use Rattle.unicode_text.specs.Utf8.{points, is_utf8, utf8_of}
use Rattle.unicode_text.specs.Utf16.{points_octets, points_of16, utf8_from16}
use Rattle.unicode_text.specs.UserName.{is_user_name}
use Rattle.unicode_text.proofs.Laws.Codec.{Code}
use Rattle.unicode_text.proofs.Laws.Utf8.{Scalar}
use Rattle.transcode.specs.Transcode.{are_octets}
use Rattle.transcode.proofs.Laws.Length.{three_each}
use Rattle.transcode.proofs.Laws.Utf16Octets.{points16_comes}
use Rattle.transcode.proofs.Laws.Utf8Back.{points-back}
use Rattle.transcode.proofs.Laws.Zeros.{zeros_kept}
use Rattle.mailslot.specs.Message.{is_text16, is_computer_name, is_message_user}
use Rattle.mailslot.specs.Internal.Runs.{user_left}
use Rattle.mailslot.specs.Internal.Shape.{EndsText}
use Rattle.mailslot.proofs.Laws.Field.{Octets, unit_octets}
use Rattle.mailslot.proofs.Laws.Ends.{text_field}

pub octets_known : (s : List ℕ) → are_octets s ≡ true → Octets s
octets_known s e = every_all (λ x. ltb x 256) (λ x. x < 256) (λ x q. ltb-true x 256 q) s e

every_drop : {A : Type 0} (P : A → Type 0) (n : ℕ) (xs : List A) → Every P xs → Every P (drop n xs)
every_drop P zero xs h = h
every_drop P (suc n) [] h = tt
every_drop P (suc n) (x ∷ xs) h = every_drop P n xs h.1

pub octets-cut : (s : List ℕ) (at n : ℕ) → Octets s → Octets (cut s at n)
octets-cut s at n o = every_take (λ x. x < 256) n (drop at s) (every_drop (λ x. x < 256) at s o)

-- ---- what is a user, and what a computer

module _ (x : List ℕ) where
  -- of the tests of a user's name only the octets of UTF-8 and the zeros are left
  pub user-left : Octets x → is_message_user x ≡ user_left 0 x
  unfolding is_message_user is_user_name is_utf8 utf8_from16
  user-left o = go (points_of16 x) refl
    where
      go : (p : Option (List ℕ)) → points_of16 x ≡ p → holds is_user_name (option_map (flat_map utf8_of) p) ≡ holds (λ cs. leb (0 + length (flat_map utf8_of cs)) user_name_most && without 0 cs) p
      go None e = refl
      go (Some cs) e =
          let back : points (flat_map utf8_of cs) ≡ Some cs = points-back cs (points16_comes x cs o e).0 in
          rw (back, zeros_kept cs, zero-add (length (flat_map utf8_of cs)), and-true (leb (length (flat_map utf8_of cs)) user_name_most))

  pub user-text : is_message_user x ≡ true → is_text16 x ≡ true
  unfolding is_message_user is_user_name utf8_from16
  user-text e = go (points_of16 x) e
    where
      go : (p : Option (List ℕ)) → holds is_user_name (option_map (flat_map utf8_of) p) ≡ true → holds (without 0) p ≡ true
      go None e = e
      go (Some cs) e = sym (zeros_kept cs) ∙ both_right (leb (length (flat_map utf8_of cs)) user_name_most && is_utf8 (flat_map utf8_of cs)) (without 0 (flat_map utf8_of cs)) e

  pub computer-text : is_computer_name x ≡ true → is_text16 x ≡ true
  unfolding is_computer_name
  computer-text e = both_left (is_text16 x) (leb (length x) (2 * 15)) e

  pub computer-most : is_computer_name x ≡ true → length x ≤ 30
  unfolding is_computer_name
  computer-most e = leb-true (length x) 30 (both_right (is_text16 x) (leb (length x) 30) e)

  -- a computer's name is a user's of at most 15 units: each has three octets of UTF-8 at most
  pub computer-user : Octets x → length x ≤ 2 * 15 → is_computer_name x ≡ is_message_user x
  unfolding is_computer_name
  computer-user o h = rw (le-leb (length x) (2 * 15) h, and-true (is_text16 x)) (go (points_of16 x) refl ∙ sym (user-left o))
    where
      go : (p : Option (List ℕ)) → points_of16 x ≡ p → holds (without 0) p ≡ holds (λ cs. leb (0 + length (flat_map utf8_of cs)) user_name_most && without 0 cs) p
      go None e = refl
      go (Some cs) e =
          let n : length (points_octets cs) ≡ length x = ap length (points16_comes x cs o e).1 in
          let k : 0 + length (flat_map utf8_of cs) ≤ user_name_most = omega (arith, three_each cs) in
          rw (le-leb (0 + length (flat_map utf8_of cs)) user_name_most k)

-- ---- a text that its zero unit ends

scalars : (cs : List ℕ) → Every Code cs → without 0 cs ≡ true → Every Scalar cs
unfolding all
scalars [] h z = tt
scalars (c ∷ cs) h z =
    let n : c ≡ 0 → ⊥ = eqb-false c 0 (not-true (eqb c 0) (both_left (not (eqb c 0)) (without 0 cs) z)) in
    (record { some = omega arith; below = h.0.below; unique = h.0.unique }, scalars cs h.1 (both_right (not (eqb c 0)) (without 0 cs) z))

-- its code points: they are its octets, and none is zero
text-points : (x : List ℕ) → Octets x → is_text16 x ≡ true → (cs : List ℕ) × Every Scalar cs × (points_octets cs ≡ x)
text-points x o e = go (points_of16 x) refl e
  where
    go : (p : Option (List ℕ)) → points_of16 x ≡ p → holds (without 0) p ≡ true → (cs : List ℕ) × Every Scalar cs × (points_octets cs ≡ x)
    go None q e = absurd (true_not_false (sym e))
    go (Some cs) q e = let c = points16_comes x cs o q in (cs, scalars cs c.0 e, c.1)

module _ (s : List ℕ) (start end : ℕ) (o : Octets s) (from : start ≤ end) (to : end + 2 ≤ length s) (zero : u16_at s end ≡ 0) where
  -- what stands from its start on
  ended : Left s start (cut s start (end - start) ++ (little_octets 2 0 ++ drop (end + 2) s))
  ended =
      let n : ℕ = end - start in
      let at : start + n ≡ end = omega arith in
      let unit : cut s end 2 ≡ little_octets 2 0 = unit_octets s end o to ∙ ap (little_octets 2) zero in
      let rest : drop end s ≡ little_octets 2 0 ++ drop (end + 2) s = sym (take-append-drop 2 (drop end s)) ∙ ap₂ (λ (a b : List ℕ). a ++ b) unit (drop-drop 2 end s) in
      let after : drop n (drop start s) ≡ little_octets 2 0 ++ drop (end + 2) s = drop-drop n start s ∙ ap (λ (i : ℕ). drop i s) at ∙ rest in
      record {
        front = take start s;
        whole = sym (take-append-drop start s) ∙ ap (λ (l : List ℕ). take start s ++ l) (sym (take-append-drop n (drop start s)) ∙ ap (λ (l : List ℕ). cut s start n ++ l) after);
        offset = length-take-le start s (omega arith);
      }

  text-read : is_text16 (cut s start (end - start)) ≡ true → read_text s start ≡ Ok (text_field start end)
  text-read e =
      let n : ℕ = end - start in
      let p = text-points (cut s start n) (octets-cut s start n o) e in
      let l : Left s start (points_octets p.0 ++ (little_octets 2 0 ++ drop (end + 2) s)) = rw p.2 ended in
      let m : length (points_octets p.0) ≡ end - start = ap length p.2 ∙ cut-length s start n (omega arith) in
      let k : start + (end - start) + 2 ≡ end + 2 = omega arith in
      text_here p.0 (drop (end + 2) s) p.1 l ∙ rw (m, k)

module _ (s : List ℕ) (start end : ℕ) (o : Octets s) where
  pub computer-read : EndsText is_computer_name s start end → read_text s start ≡ Ok (text_field start end)
  computer-read e = text-read s start end o e.from e.to e.zero (computer-text (cut s start (end - start)) e.text)

  pub user-read : EndsText is_message_user s start end → read_text s start ≡ Ok (text_field start end)
  user-read e = text-read s start end o e.from e.to e.zero (user-text (cut s start (end - start)) e.text)

  -- a computer's name is a user's
  pub computer_as_user : EndsText is_computer_name s start end → EndsText is_message_user s start end
  computer_as_user e =
      let x : List ℕ = cut s start (end - start) in
      record { from = e.from; to = e.to; zero = e.zero; text = sym (computer-user x (octets-cut s start (end - start) o) (computer-most x e.text)) ∙ e.text }

  pub user_as_computer : end ≤ start + 30 → EndsText is_message_user s start end → EndsText is_computer_name s start end
  user_as_computer h e =
      let x : List ℕ = cut s start (end - start) in
      let n : length x ≡ end - start = cut-length s start (end - start) (omega (arith, e.from, e.to)) in
      record { from = e.from; to = e.to; zero = e.zero; text = computer-user x (octets-cut s start (end - start) o) (omega arith) ∙ e.text }
