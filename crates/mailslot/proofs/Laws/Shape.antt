-- A message that reads has its shape, and one of the shape reads: its tests, in the order in which the code makes them.
use Rattle.std.proofs.Common.{Ok, Err}
use mathlib.Core.Path.{◌≡◌, refl, sym, ap, ◌∙◌, subst}
use mathlib.Core.Bool.{Bool, true, false, not, ◌&&◌, and-true}
use mathlib.Core.List.{List}
use Prim.Native.Nat.{ℕ, ◌+◌, ◌-◌, ◌≤◌, ◌<◌}
use native.Mathlib.Omega.{arith}
use lib.Dec.{eqb, ltb}
use lib.ListN.{length}
use borrow.Author.Tests.{lt-ltb, ltb-true, not-false}
use Rattle.answers.specs.declared.Refusal.TheVariants.{MailslotShape}
use Rattle.answers.specs.Try.{Try, refused_if, ◌>>=◌}
use Rattle.answers.specs.Wire.{logon_sam_logon_request, LmNtToken, Lm20Token}
use Rattle.answers.proofs.Laws.Try.{good_then, refused_if-good, refused_not_good}
use Rattle.octets.specs.Lists.{cut}
use Rattle.octets.specs.Number.{little_octets, u16_at, u32_at}
use Rattle.octets.proofs.Laws.Lists.{both_left, both_right, every_at}
use Rattle.octets.proofs.Laws.Number.{u16-octets, u32_halves}
use Rattle.octets.specs.Stretch.{stretch_of}
use Rattle.reader.specs.Field.{read_octets}
use Rattle.reader.specs.Reader.{read_constant, read_number}
use Rattle.reader.specs.Text.{read_text}
use Rattle.mailslot.specs.declared.message.Message.{Message}
use Rattle.mailslot.specs.Message.{is_computer_name, is_message_user, is_mailslot_name, is_message_sid, good_message, read_zero_ended, read_sid, read_fields, as_shape, message_in}
use Rattle.mailslot.specs.Internal.Shape.{Texts, Numbers, sid_padding, message_at}
use Rattle.mailslot.proofs.Laws.Field.{Octets, then_known, octets_there, octets-read, number_there, number_read, constant_there, constant_read, tokens_there, tokens_read}
use Rattle.mailslot.proofs.Laws.Ends.{text_field, text-got, name_field, name-got, name-read}
use Rattle.mailslot.proofs.Laws.User.{computer-read, user-read}
use Rattle.mailslot.proofs.Laws.Sid.{sid_field, sid_there, sid-read, sid-judged}

-- a message of the shape, wherever its texts end
pub record Shape (s : List ℕ) : Type 0 where
  pub computer : ℕ
  pub user : ℕ
  pub mailslot : ℕ
  pub sid : ℕ
  pub texts : Texts s computer user mailslot
  pub numbers : Numbers s (mailslot + 1) sid

-- what is good of a message, limit by limit
pub record GoodParts (s : List ℕ) (m : Message) : Type 0 where
  pub computer : is_computer_name (stretch_of s m.computer) ≡ true
  pub user : is_message_user (stretch_of s m.user) ≡ true
  pub mailslot : is_mailslot_name (stretch_of s m.mailslot) ≡ true
  pub sid : is_message_sid (stretch_of s m.sid) ≡ true

module _ (s : List ℕ) (m : Message) where
  abbrev repeated : Bool
  repeated = ltb m.repeat 0x10000

  abbrev named : Bool
  named = repeated && is_computer_name (stretch_of s m.computer)

  abbrev used : Bool
  used = named && is_message_user (stretch_of s m.user)

  abbrev slotted : Bool
  slotted = used && is_mailslot_name (stretch_of s m.mailslot)

  abbrev bitted : Bool
  bitted = slotted && ltb m.bits 0x100000000

  abbrev told : Bool
  told = bitted && is_message_sid (stretch_of s m.sid)

  pub good-parts : good_message s m ≡ true → GoodParts s m
  unfolding good_message
  good-parts e =
      let d : told ≡ true = both_left told (ltb m.version 0x100000000) e in
      let b : slotted ≡ true = both_left slotted (ltb m.bits 0x100000000) (both_left bitted (is_message_sid (stretch_of s m.sid)) d) in
      let u : used ≡ true = both_left used (is_mailslot_name (stretch_of s m.mailslot)) b in
      let c : named ≡ true = both_left named (is_message_user (stretch_of s m.user)) u in
      record {
        computer = both_right repeated (is_computer_name (stretch_of s m.computer)) c;
        user = both_right named (is_message_user (stretch_of s m.user)) u;
        mailslot = both_right used (is_mailslot_name (stretch_of s m.mailslot)) b;
        sid = both_right bitted (is_message_sid (stretch_of s m.sid)) d;
      }

  pub good_numbers : good_message s m ≡ true → (m.repeat < 0x10000) × (m.bits < 0x100000000) × (m.version < 0x100000000)
  unfolding good_message
  good_numbers e =
      let d : told ≡ true = both_left told (ltb m.version 0x100000000) e in
      let b : bitted ≡ true = both_left bitted (is_message_sid (stretch_of s m.sid)) d in
      let u : used ≡ true = both_left used (is_mailslot_name (stretch_of s m.mailslot)) (both_left slotted (ltb m.bits 0x100000000) b) in
      let r : repeated ≡ true = both_left repeated (is_computer_name (stretch_of s m.computer)) (both_left named (is_message_user (stretch_of s m.user)) u) in
      (ltb-true m.repeat 0x10000 r, ltb-true m.bits 0x100000000 (both_right slotted (ltb m.bits 0x100000000) b), ltb-true m.version 0x100000000 (both_right told (ltb m.version 0x100000000) e))

  -- the numbers have the widths of their fields: the texts and the SID decide
  pub good_by_parts : m.repeat < 0x10000 → m.bits < 0x100000000 → m.version < 0x100000000
      → (is_computer_name (stretch_of s m.computer) && is_message_user (stretch_of s m.user) && is_mailslot_name (stretch_of s m.mailslot) && is_message_sid (stretch_of s m.sid)) ≡ good_message s m
  unfolding good_message
  good_by_parts r b v =
      let texts : Bool = is_computer_name (stretch_of s m.computer) && is_message_user (stretch_of s m.user) && is_mailslot_name (stretch_of s m.mailslot) in
      rw (lt-ltb m.repeat 0x10000 r, lt-ltb m.bits 0x100000000 b, lt-ltb m.version 0x100000000 v, and-true texts, and-true (texts && is_message_sid (stretch_of s m.sid)))

-- ---- what reads has the shape

shape_good : {A : Type 0} (t : Try A) (a : A) → as_shape t ≡ Ok a → t ≡ Ok a
shape_good (Err r) a e = absurd (refused_not_good MailslotShape a e)
shape_good (Ok b) a e = e

fields_shape : (s : List ℕ) (m : Message) → read_fields s ≡ Ok m → good_message s m ≡ true → Shape s
unfolding read_fields
fields_shape s m e g =
    then_known (λ x. record { value = little_octets 2 logon_sam_logon_request; next = 2 }) (read_constant 2 logon_sam_logon_request s 0) _ m (λ f. constant_read s 0 logon_sam_logon_request f (omega arith)) e (λ o e.
    then_known (λ x. record { value = cut s 2 2; next = 4 }) (read_octets s 2 2) _ m (octets-read s 2 2) e (λ n e.
    then_known (λ x. text_field 4 x.end) (read_text s 4) _ m (text-got s 4) e (λ c e.
    then_known (λ x. text_field (c.end + 2) x.end) (read_text s (c.end + 2)) _ m (text-got s (c.end + 2)) e (λ u e.
    then_known (λ x. name_field (u.end + 2) x.end) (read_zero_ended s (u.end + 2)) _ m (name-got s (u.end + 2)) e (λ a e.
    let at : ℕ = a.end + 1 in
    let size : ℕ = u32_at s (at + 4) in
    then_known (λ x. record { value = u32_at s at; next = at + 4 }) (read_number s at) _ m (number_read s at) e (λ b e.
    then_known (λ x. record { value = size; next = at + 4 + 4 }) (read_number s (at + 4)) _ m (number_read s (at + 4)) e (λ z e.
    then_known (λ x. sid_field size (at + 4 + 4)) (read_sid (eqb size 0) size s (at + 4 + 4)) _ m (sid-read s (at + 4 + 4) size) e (λ d e.
    let sid : ℕ = at + 4 + 4 + sid_padding size (at + 4 + 4) in
    then_known (λ x. record { value = u32_at s (sid + size); next = sid + size + 4 }) (read_number s (sid + size)) _ m (number_read s (sid + size)) e (λ v e.
    let t = tokens_read s (sid + size + 4) _ m e in
    let p = good-parts s m g in
    let q : GoodParts s (message_at s c.end u.end a.end sid) = subst (GoodParts s) (sym t.3) p in
    let eight : at + 4 + 4 ≡ at + 8 = omega arith in
    record {
      computer = c.end;
      user = u.end;
      mailslot = a.end;
      sid = sid;
      texts = record {
        opcode = o.1;
        computer_ends = record { from = c.from; to = c.to; zero = c.zero; text = q.computer };
        user_ends = record { from = u.from; to = u.to; zero = u.zero; text = q.user };
        mailslot_ends = record { from = a.from; to = a.to; zero = a.zero; name = q.mailslot };
      };
      numbers = record {
        sid_starts = ap (λ (i : ℕ). i + sid_padding size i) eight;
        sized = sym (sid-judged s sid size d) ∙ q.sid;
        ends = omega arith;
        first = t.1;
        second = t.2;
      };
    })))))))))

pub message_shape : (s : List ℕ) (m : Message) → message_in s ≡ Ok m → Shape s
unfolding message_in
message_shape s m e =
    let f = good_then (as_shape (read_fields s)) _ m e in
    let r = refused_if-good (not (good_message s f.0)) MailslotShape (Ok f.0) m f.2 in
    fields_shape s f.0 (shape_good (read_fields s) f.0 f.1) (not-false (good_message s f.0) r.0)

-- whatever is refused, it is 41
abbrev Refusals : Try Message → Type 0
Refusals (Err r) = r ≡ MailslotShape
Refusals (Ok m) = Unit {0}

only_shape : (s : List ℕ) → Refusals (message_in s)
unfolding message_in
only_shape s = go (read_fields s)
  where
    judged : (b : Bool) (m : Message) → Refusals (refused_if b MailslotShape (Ok m))
    judged true m = refl
    judged false m = tt

    go : (t : Try Message) → Refusals (as_shape t >>= λ m. refused_if (not (good_message s m)) MailslotShape (Ok m))
    go (Err r) = refl
    go (Ok m) = judged (not (good_message s m)) m

pub shape_refused : (s : List ℕ) → (Shape s → ⊥) → message_in s ≡ Err MailslotShape
shape_refused s none = go (message_in s) refl (only_shape s)
  where
    go : (t : Try Message) → message_in s ≡ t → Refusals t → t ≡ Err MailslotShape
    go (Err r) e o = ap Err o
    go (Ok m) e o = absurd (none (message_shape s m e))

-- ---- and what has the shape reads

u16_fits : (s : List ℕ) (at : ℕ) → Octets s → at + 2 ≤ length s → u16_at s at < 0x10000
u16_fits s at o h = omega (arith, u16-octets s at h, every_at (λ x. x < 256) s at 0 o (omega arith), every_at (λ x. x < 256) s (at + 1) 0 o (omega arith))

u32_fits : (s : List ℕ) (at : ℕ) → Octets s → at + 4 ≤ length s → u32_at s at < 0x100000000
u32_fits s at o h = omega (arith, u32_halves s at h, u16_fits s at o (omega arith), u16_fits s (at + 2) o (omega arith))

module _ (s : List ℕ) (computer user mailslot sid : ℕ) (o : Octets s) (t : Texts s computer user mailslot) (n : Numbers s (mailslot + 1) sid) where
  abbrev bits : ℕ
  bits = mailslot + 1

  abbrev size : ℕ
  size = u32_at s (bits + 4)

  -- the SID's offset as the fields add up to it
  abbrev behind : ℕ
  behind = bits + 4 + 4 + sid_padding size (bits + 4 + 4)

  behind-sid : behind ≡ sid
  behind-sid =
      let eight : bits + 4 + 4 ≡ bits + 8 = omega arith in
      ap (λ (i : ℕ). i + sid_padding size i) eight ∙ sym n.sid_starts

  fields_there : read_fields s ≡ Ok (message_at s computer user mailslot sid)
  unfolding read_fields
  fields_there =
      let k : behind ≡ sid = behind-sid in
      let e : behind + size + 8 ≡ length s = ap (λ (i : ℕ). i + size + 8) k ∙ n.ends in
      let first : u16_at s (behind + size + 4) ≡ LmNtToken = ap (λ (i : ℕ). u16_at s (i + size + 4)) k ∙ n.first in
      let second : u16_at s (behind + size + 4 + 2) ≡ Lm20Token = ap (λ (i : ℕ). u16_at s (i + size + 4 + 2)) k ∙ n.second in
      let l : 4 ≤ length s = omega (arith, t.computer_ends.from, t.computer_ends.to) in
      subst (λ (i : ℕ). read_fields s ≡ Ok (message_at s computer user mailslot i)) k
      (rw (
        constant_there s 0 logon_sam_logon_request o (omega arith) t.opcode,
        octets_there s 2 2 (omega arith),
        computer-read s 4 computer o t.computer_ends,
        user-read s (computer + 2) user o t.user_ends,
        name-read s (user + 2) mailslot t.mailslot_ends,
        number_there s bits (omega arith),
        number_there s (bits + 4) (omega arith),
        sid_there s (bits + 4 + 4) size (omega arith),
        number_there s (behind + size) (omega arith),
      ) (tokens_there s (behind + size + 4) (message_at s computer user mailslot behind) o (omega arith) first second))

  fields_good : good_message s (message_at s computer user mailslot sid) ≡ true
  fields_good =
      let l : 4 ≤ length s = omega (arith, t.computer_ends.from, t.computer_ends.to) in
      let e : sid + size + 8 ≡ length s = n.ends in
      let k : bits + 8 ≤ sid = omega (arith, n.sid_starts) in
      let told : is_message_sid (cut s sid size) ≡ true = sid-judged s sid size (omega arith) ∙ n.sized in
      sym (good_by_parts s (message_at s computer user mailslot sid) (u16_fits s 2 o (omega arith)) (u32_fits s bits o (omega arith)) (u32_fits s (sid + size) o (omega arith)))
      ∙ rw (t.computer_ends.text, t.user_ends.text, t.mailslot_ends.name, told)

  pub shape_read : message_in s ≡ Ok (message_at s computer user mailslot sid)
  unfolding message_in
  shape_read = rw (fields_there, fields_good)
