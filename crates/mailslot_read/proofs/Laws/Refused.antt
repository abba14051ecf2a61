-- A message is refused where no message has its shape: by its texts, or, where these are good, by what stands behind them.
use Rattle.std.proofs.Common.{Ok, Err}
use mathlib.Core.Path.{◌≡◌, refl, sym, ap, ap₂, ◌∙◌, subst}
use mathlib.Core.Bool.{Bool, true, ◌&&◌}
use mathlib.Core.List.{List}
use Prim.Native.Nat.{ℕ, ◌+◌, ◌-◌, ◌≤◌, ◌<◌}
use native.Mathlib.Omega.{arith}
use lib.Dec.{eqb}
use lib.ListN.{length, get_or}
use borrow.Author.Tests.{eq-eqb, eqb-true}
use Rattle.answers.specs.declared.Refusal.TheVariants.{MailslotShape}
use Rattle.answers.specs.Try.{Try, number_of, value_of}
use Rattle.answers.specs.Wire.{logon_sam_logon_request, LmNtToken, Lm20Token}
use Rattle.answers.proofs.Laws.Try.{good-same}
use Rattle.octets.specs.Number.{u16_at, u32_at}
use Rattle.octets.proofs.Laws.Lists.{both_left, both_right}
use Rattle.reader.specs.declared.field.Read.{Read}
use Rattle.octets.specs.declared.part.Stretch.{Stretch}
use Rattle.mailslot.specs.declared.message.Message.{Message}
use Rattle.mailslot.specs.Message.{is_message_user, message_in}
use Rattle.mailslot.specs.Read.{ReadMessagePromise}
use Rattle.mailslot.specs.Internal.Shape.{EndsText, EndsName, OneEnd, Texts, Numbers, sid_padding, is_sid_size}
use Rattle.mailslot.proofs.Laws.Ends.{text_field, name_field, name-read}
use Rattle.mailslot.proofs.Laws.Field.{Octets}
use Rattle.mailslot.proofs.Laws.Shape.{Shape, shape_refused, shape_read}
use Rattle.mailslot.proofs.Laws.User.{computer-read, user-read, computer_as_user, user_as_computer}

pub promised : (s : List ℕ) (r : Try Message) → r ≡ message_in s → ReadMessagePromise s r
promised s r e = record { same = e; numbered = ap number_of e; given = ap value_of e }

pub shapeless : (s : List ℕ) → (Shape s → ⊥) → Err MailslotShape ≡ message_in s
shapeless s none = sym ((shape_refused s none))

-- a text that ends nowhere
pub endless : (Ends : ℕ → Type 0) (length : ℕ) → ((end : ℕ) → Ends end → ⊥) → OneEnd Ends length length
endless Ends length none = record { to = omega arith; found = λ h. absurd (omega arith); only = λ end e. absurd (none end e) }

-- the texts of a message of the shape end where each is found to end
pub record Found (s : List ℕ) (computer user mailslot : ℕ) : Type 0 where
  pub octets : Octets s
  pub computer_end_lem : OneEnd (EndsText is_message_user s 4) (length s) computer
  pub user_end_lem : OneEnd (EndsText is_message_user s (computer + 2)) (length s) user
  pub mailslot_end_lem : OneEnd (EndsName s (user + 2)) (length s) mailslot

module _ (s : List ℕ) (computer user mailslot : ℕ) (f : Found s computer user mailslot) (p : Shape s) where
  pub computer-same : p.computer ≡ computer
  computer-same = f.computer_end_lem.only p.computer (computer_as_user s 4 p.computer f.octets p.texts.computer_ends)

  user-same : p.user ≡ user
  user-same = f.user_end_lem.only p.user (subst (λ (c : ℕ). EndsText is_message_user s (c + 2) p.user) computer-same p.texts.user_ends)

  pub mailslot-same : p.mailslot ≡ mailslot
  mailslot-same = f.mailslot_end_lem.only p.mailslot (subst (λ (u : ℕ). EndsName s (u + 2) p.mailslot) user-same p.texts.mailslot_ends)

-- each end is the only one
texts-found : (s : List ℕ) (computer user mailslot : ℕ) → Octets s → Texts s computer user mailslot → Found s computer user mailslot
texts-found s computer user mailslot o t =
    record {
      octets = o;
      computer_end_lem = record { to = omega (arith, t.computer_ends.to); found = λ h. computer_as_user s 4 computer o t.computer_ends; only = λ e q. same_end (sym (user-read s 4 e o q) ∙ computer-read s 4 computer o t.computer_ends) };
      user_end_lem = record { to = omega (arith, t.user_ends.to); found = λ h. t.user_ends; only = λ e q. same_end (sym (user-read s (computer + 2) e o q) ∙ user-read s (computer + 2) user o t.user_ends) };
      mailslot_end_lem = record { to = omega (arith, t.mailslot_ends.to); found = λ h. t.mailslot_ends; only = λ e q. same_octet (sym (name-read s (user + 2) e q) ∙ name-read s (user + 2) mailslot t.mailslot_ends) };
    }
  where
    same_end : {start e f : ℕ} → ◌≡◌ {A = Try (Read Stretch)} (Ok (text_field start e)) (Ok (text_field start f)) → e ≡ f
    same_end {start} {e} {f} q = let n : e + 2 ≡ f + 2 = ap (λ (x : Read Stretch). x.next) (good-same q) in omega arith

    same_octet : {start e f : ℕ} → ◌≡◌ {A = Try (Read Stretch)} (Ok (name_field start e)) (Ok (name_field start f)) → e ≡ f
    same_octet {start} {e} {f} q = let n : e + 1 ≡ f + 1 = ap (λ (x : Read Stretch). x.next) (good-same q) in omega arith

-- found within the message, they are good
pub texts-good : (s : List ℕ) (computer user mailslot : ℕ) → Found s computer user mailslot → u16_at s 0 ≡ logon_sam_logon_request → mailslot < length s → computer ≤ 4 + 30 → Texts s computer user mailslot
texts-good s computer user mailslot f code h short =
    let a : EndsName s (user + 2) mailslot = f.mailslot_end_lem.found h in
    let u : EndsText is_message_user s (computer + 2) user = f.user_end_lem.found (omega (arith, a.from)) in
    let c : EndsText is_message_user s 4 computer = f.computer_end_lem.found (omega (arith, u.from)) in
    record { opcode = code; computer_ends = user_as_computer s 4 computer f.octets short c; user_ends = u; mailslot_ends = a }

-- ---- behind the texts

abbrev message_said : ℕ → ℕ → ℕ → ℕ → ℕ → ℕ → ℕ → ℕ → Message
message_said computer user mailslot sid size repeat bits version =
    record {
      repeat = repeat;
      computer = record { start = 4; len = computer - 4 };
      user = record { start = computer + 2; len = user - (computer + 2) };
      mailslot = record { start = user + 2; len = mailslot - (user + 2) };
      bits = bits;
      sid = record { start = sid; len = size };
      version = version;
    }

pub numberless : (s : List ℕ) (computer user mailslot : ℕ) → Octets s → Texts s computer user mailslot → ((sid : ℕ) → Numbers s (mailslot + 1) sid → ⊥)
    → Err MailslotShape ≡ message_in s
numberless s computer user mailslot o t none =
    shapeless s (λ p.
    let e : p.mailslot ≡ mailslot = mailslot-same s computer user mailslot (texts-found s computer user mailslot o t) p in
    none p.sid (subst (λ (a : ℕ). Numbers s (a + 1) p.sid) e p.numbers))

-- a SID of this size at this offset, and what ends the message
pub record Tail (s : List ℕ) (sid size : ℕ) : Type 0 where
  pub sized : is_sid_size size (get_or s (sid + 1) 0) ≡ true
  pub ends : sid + size + 8 ≡ length s
  pub tokens : (eqb (u16_at s (sid + size + 4)) LmNtToken && eqb (u16_at s (sid + size + 4 + 2)) Lm20Token) ≡ true

module _ (s : List ℕ) (computer user mailslot : ℕ) (o : Octets s) (t : Texts s computer user mailslot) (size pad : ℕ) (z : size ≡ u32_at s (mailslot + 1 + 4)) (q : pad ≡ sid_padding size (mailslot + 1 + 8)) where
  abbrev sid : ℕ
  sid = mailslot + 1 + 8 + pad

  tail_of : (d : ℕ) → Numbers s (mailslot + 1) d → Tail s sid size
  tail_of d n =
      let e : d ≡ sid = n.sid_starts ∙ ap (λ (i : ℕ). mailslot + 1 + 8 + i) (ap (λ (i : ℕ). sid_padding i (mailslot + 1 + 8)) (sym z) ∙ sym q) in
      let at : (k : ℕ) → d + u32_at s (mailslot + 1 + 4) + k ≡ sid + size + k = λ k. ap₂ (λ (i j : ℕ). i + j + k) e (sym z) in
      let first : u16_at s (sid + size + 4) ≡ LmNtToken = ap (u16_at s) (sym (at 4)) ∙ n.first in
      let second : u16_at s (sid + size + 4 + 2) ≡ Lm20Token = ap (λ (i : ℕ). u16_at s (i + 2)) (sym (at 4)) ∙ n.second in
      record {
        sized = ap₂ (λ (i j : ℕ). is_sid_size i (get_or s (j + 1) 0)) z (sym e) ∙ n.sized;
        ends = sym (at 8) ∙ n.ends;
        tokens = rw (eq-eqb (u16_at s (sid + size + 4)) LmNtToken first, eq-eqb (u16_at s (sid + size + 4 + 2)) Lm20Token second);
      }

  pub tailless : (Tail s sid size → ⊥) → Err MailslotShape ≡ message_in s
  tailless none = numberless s computer user mailslot o t (λ d n. none (tail_of d n))

  numbers_of : Tail s sid size → Numbers s (mailslot + 1) sid
  numbers_of x =
      let first : Bool = eqb (u16_at s (sid + size + 4)) LmNtToken in
      let second : Bool = eqb (u16_at s (sid + size + 4 + 2)) Lm20Token in
      record {
        sid_starts = ap (λ (i : ℕ). mailslot + 1 + 8 + i) (q ∙ ap (λ (i : ℕ). sid_padding i (mailslot + 1 + 8)) z);
        sized = ap (λ (i : ℕ). is_sid_size i (get_or s (sid + 1) 0)) (sym z) ∙ x.sized;
        ends = ap (λ (i : ℕ). sid + i + 8) (sym z) ∙ x.ends;
        first = ap (λ (i : ℕ). u16_at s (sid + i + 4)) (sym z) ∙ eqb-true (u16_at s (sid + size + 4)) LmNtToken (both_left first second x.tokens);
        second = ap (λ (i : ℕ). u16_at s (sid + i + 4 + 2)) (sym z) ∙ eqb-true (u16_at s (sid + size + 4 + 2)) Lm20Token (both_right first second x.tokens);
      }

  -- what the code puts together is what the message says
  pub tail_read : Tail s sid size → (repeat bits version : ℕ) → repeat ≡ u16_at s 2 → bits ≡ u32_at s (mailslot + 1) → version ≡ u32_at s (sid + size)
      → Ok (message_said computer user mailslot sid size repeat bits version) ≡ message_in s
  tail_read x repeat bits version a b v =
      rw (a, b, v, z) (sym ((shape_read s computer user mailslot sid o t (numbers_of x))))
