-- The longest message: limit by limit, in the order of its fields.
use Rattle.std.proofs.Common.{Option, None, Some}
use mathlib.Core.Path.{◌≡◌, refl, sym}
use mathlib.Core.Bool.{Bool, true, false, cond, ◌&&◌, ◌||◌}
use mathlib.Core.List.{List, [], ◌∷◌}
use Prim.Native.Nat.{ℕ, ◌+◌, ◌*◌, ◌-◌, ◌≤◌}
use native.Mathlib.Omega.{arith}
use lib.Dec.{eqb, leb}
use lib.ListN.{length, get_or, length-append, length-replicate}
use borrow.Author.Tests.{leb-true, eqb-true}
use Rattle.octets.specs.{Lists.all, Lists.cut, Lists.holds, NameRule.without, Text.within}
use Rattle.octets.specs.Number.{u32_at, little_octets}
use Rattle.octets.proofs.Laws.Lists.{both_left, cut-length, true_not_false}
use Rattle.octets.proofs.Laws.Text.{within-high}
use Rattle.octets.specs.Stretch.{stretch_of}
use Rattle.reply.specs.Reply.{ending}
use Rattle.unicode_text.specs.{UserName.is_user_name, Utf8.is_utf8, Utf16.utf8_from16}
use Rattle.transcode.proofs.Laws.Length.{one_a_unit}
use Rattle.mailslot.specs.declared.message.Message.{Message}
use Rattle.mailslot.specs.Message.{is_message_user, is_mailslot_name, is_message_sid, padding, message_head, padded_sid, message_octets}
use Rattle.mailslot.specs.Longest.{LongestMessage}
use Rattle.mailslot.specs.Internal.Runs.{of_name}
use Rattle.mailslot.specs.Internal.Shape.{sid_padding, is_sid_size, EndsText}
use Rattle.mailslot.proofs.Laws.Name.{name-short}
use Rattle.mailslot.proofs.Laws.User.{computer-most}
use Rattle.mailslot.proofs.Laws.Shape.{Shape, message_shape, GoodParts, good-parts}

-- ---- each part

module _ (x : List ℕ) where
  -- a unit takes an octet of UTF-8 at least
  pub user-most : is_message_user x ≡ true → length x ≤ 126
  unfolding is_message_user is_user_name
  user-most e = go (utf8_from16 x) refl e
    where
      go : (o : Option (List ℕ)) → utf8_from16 x ≡ o → holds is_user_name o ≡ true → length x ≤ 126
      go None q e = absurd (true_not_false (sym e))
      go (Some t) q e =
          let h : length t ≤ 63 = leb-true (length t) 63 (both_left (leb (length t) 63) (is_utf8 t) (both_left (leb (length t) 63 && is_utf8 t) (without 0 t) e)) in
          omega (arith, one_a_unit x t q)

  name-most : is_mailslot_name x ≡ true → length x ≤ 64
  unfolding is_mailslot_name
  name-most e = leb-true (length x) 64 (both_left (leb (length x) 64) (all of_name x) e)

pub size-most : (size count : ℕ) → is_sid_size size count ≡ true → size ≤ 68
size-most size count e = go (eqb size 0) refl e
  where
    go : (b : Bool) → eqb size 0 ≡ b → (b || (within 8 68 size && eqb size (8 + 4 * count))) ≡ true → size ≤ 68
    go true q e = omega (arith, eqb-true size 0 q)
    go false q e = within-high 8 68 size (both_left (within 8 68 size) (eqb size (8 + 4 * count)) e)

pub sid-most : (x : List ℕ) → is_message_sid x ≡ true → length x ≤ 68
unfolding is_message_sid
sid-most x e = size-most (length x) (get_or x 1 0) e

padding-most : (at : ℕ) → padding at ≤ 3
unfolding padding
padding-most at = omega arith

sid-padding-most : (size at : ℕ) → sid_padding size at ≤ 3
sid-padding-most size at = go (eqb size 0)
  where
    go : (b : Bool) → cond b 0 (padding at) ≤ 3
    go true = omega arith
    go false = padding-most at

-- ---- one that reads

pub text-most : {good : List ℕ → Bool} {s : List ℕ} {start end : ℕ} (n : ℕ) → ((x : List ℕ) → good x ≡ true → length x ≤ n) → EndsText good s start end → end ≤ start + n
text-most {good} {s} {start} {end} n most e =
    let m : length (cut s start (end - start)) ≡ end - start = cut-length s start (end - start) (omega (arith, e.from, e.to)) in
    omega (arith, most (cut s start (end - start)) e.text, e.from)

pub read-most : (s : List ℕ) → Shape s → length s ≤ 316
read-most s p =
    let c : p.computer ≤ 4 + 30 = text-most 30 computer-most p.texts.computer_ends in
    let u : p.user ≤ p.computer + 2 + 126 = text-most 126 user-most p.texts.user_ends in
    let a : p.mailslot - (p.user + 2) ≤ 64 = name-short s (p.user + 2) p.mailslot p.texts.mailslot_ends in
    let size : ℕ = u32_at s (p.mailslot + 1 + 4) in
    let z : size ≤ 68 = size-most size (get_or s (p.sid + 1) 0) p.numbers.sized in
    let d : p.sid ≤ p.mailslot + 1 + 8 + 3 = omega (arith, p.numbers.sid_starts, sid-padding-most size (p.mailslot + 1 + 8)) in
    let e : p.sid + size + 8 ≡ length s = p.numbers.ends in
    omega (arith, p.texts.mailslot_ends.from)

-- ---- one that is written

padded-most : (at : ℕ) (x : List ℕ) → length x ≤ 68 → length (padded_sid at x) ≤ 71
padded-most at [] h = omega arith
padded-most at (y ∷ x) h = simp (length-append, length-replicate) (omega (arith, padding-most at))

module _ (source : List ℕ) (m : Message) (g : GoodParts source m) where
  head_most : length (message_head source m) ≤ 237
  unfolding message_head little_octets
  head_most =
      let c = computer-most (stretch_of source m.computer) g.computer in
      let u = user-most (stretch_of source m.user) g.user in
      let a = name-most (stretch_of source m.mailslot) g.mailslot in
      simp length-append (omega arith)

  written-most : length (message_octets source m) ≤ 316
  unfolding message_octets ending little_octets
  written-most =
      let h : length (message_head source m) ≤ 237 = head_most in
      let p = padded-most (length (message_head source m)) (stretch_of source m.sid) (sid-most (stretch_of source m.sid) g.sid) in
      simp length-append (omega arith)

pub longest_message : LongestMessage
longest_message = record { read = λ s m e. read-most s (message_shape s m e); written = λ source m e. written-most source m (good-parts source m e) }
