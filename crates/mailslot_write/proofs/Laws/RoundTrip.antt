-- The round trip, proved of the definitions and then of the two calls.
pub mod Fields
use Rattle.std.proofs.Common.{Ok, Err}
use mathlib.Core.Path.{◌≡◌, refl, sym, ap, subst, ◌∙◌}
use mathlib.Core.Bool.{Bool, true, false, not}
use mathlib.Core.List.{List, [], ◌∷◌, ◌++◌, append_assoc}
use Prim.Native.Nat.{ℕ, ◌+◌, ◌^◌, ◌<◌}
use native.Mathlib.Nat.{zero-add}
use native.Mathlib.Omega.{arith}
use lib.Dec.{eqb, ltb}
use lib.ListN.{length, take}
use Rattle.answers.specs.declared.Refusal.TheVariants.{MailslotShape, NoRoom}
use Rattle.answers.specs.Try.{Try, refused_if}
use Rattle.answers.specs.Wire.{logon_sam_logon_request}
use Rattle.answers.specs.Written.{written_as, written_octets}
use Rattle.octets.specs.Buffer.{over}
use Rattle.octets.proofs.Laws.Buffer.{over_front}
use Rattle.octets.proofs.Laws.Number.{length-little, little-back}
use Rattle.octets.specs.Stretch.{stretch_of}
use Rattle.reader.specs.Text.{read_text}
use Rattle.reader.proofs.Laws.Field.{Left, left-start, left_after, left-same, octets_here}
use Rattle.reader.proofs.Laws.Reader.{tokens, constant_here, number_here, number-after, tokens_here}
use Rattle.reply.specs.Reply.{u16, u32, ending}
use Rattle.mailslot.specs.declared.message.Message.{Message}
use Rattle.mailslot.specs.Message.{good_message, read_zero_ended, read_sid, read_fields, message_in, message_head, padded_sid, message_octets, message_for}
use Rattle.mailslot.proofs.Laws.Longest.{longest_message}
use Rattle.mailslot.proofs.Laws.Shape.{GoodParts, good-parts, good_numbers}
use Rattle.mailslot.proofs.Laws.User.{computer-text, user-text}
use Rattle.mailslot_write.specs.RoundTrip.{SameMessage, RoundTrip, CallsRoundTrip}
use Rattle.mailslot_write.proofs.Laws.Size.{message_length}
use Rattle.mailslot_write.proofs.Laws.RoundTrip.Fields.{Back, text-back, name_back, sid-back}

-- a message is judged by its numbers and by the octets of its texts alone
good-same : (s : List ℕ) (q : Message) (source : List ℕ) (m : Message) → SameMessage s q source m → good_message s q ≡ good_message source m
unfolding good_message
good-same s q source m e =
    rw (good_message, e.repeat, e.computer, e.user, e.mailslot, e.bits, e.sid, e.version)

module _ (source : List ℕ) (m : Message) where
  abbrev s : List ℕ
  s = message_octets source m

  abbrev computer : List ℕ
  computer = stretch_of source m.computer

  abbrev user : List ℕ
  user = stretch_of source m.user

  abbrev name : List ℕ
  name = stretch_of source m.mailslot

  abbrev sid : List ℕ
  sid = stretch_of source m.sid

  -- what stands after each field, from the last one back
  abbrev after_sid : List ℕ
  after_sid = u32 m.version ++ tokens

  abbrev after_head : List ℕ
  after_head = padded_sid (length (message_head source m)) sid ++ after_sid

  abbrev after_name : List ℕ
  after_name = u32 m.bits ++ (u32 (length sid) ++ after_head)

  abbrev after_user : List ℕ
  after_user = name ++ ((0 ∷ []) ++ after_name)

  abbrev after_computer : List ℕ
  after_computer = user ++ (u16 0 ++ after_user)

  abbrev after_opcode : List ℕ
  after_opcode = u16 m.repeat ++ (computer ++ (u16 0 ++ after_computer))

  -- the head by its fields
  head_fields : (rest : List ℕ) → message_head source m ++ rest
      ≡ u16 logon_sam_logon_request
      ++ (u16 m.repeat ++ (computer ++ (u16 0 ++ (user ++ (u16 0 ++ (name ++ ((0 ∷ []) ++ (u32 m.bits ++ (u32 (length sid) ++ rest)))))))))
  unfolding message_head
  head_fields rest = simp append_assoc

  head_left : Left s 0 (message_head source m ++ after_head)
  unfolding message_octets ending
  head_left = subst (Left s 0) (simp append_assoc) (left-start s)

  module _ (g : good_message source m ≡ true) where
    parts : GoodParts source m
    parts = good-parts source m g

    opcode-left : Left s 0 (u16 logon_sam_logon_request ++ after_opcode)
    opcode-left = subst (Left s 0) (head_fields after_head) head_left

    repeat-left : Left s (0 + 2) after_opcode
    repeat-left = number-after after_opcode 2 logon_sam_logon_request opcode-left

    computer-back : Back s (read_text s (0 + 2 + 2)) computer after_computer
    computer-back = text-back computer after_computer (computer-text computer parts.computer) (number-after (computer ++ (u16 0 ++ after_computer)) 2 m.repeat repeat-left)

    user-back : Back s (read_text s computer-back.next) user after_user
    user-back = text-back user after_user (user-text user parts.user) computer-back.left

    mailslot-back : Back s (read_zero_ended s user-back.next) name after_name
    mailslot-back = name_back name after_name parts.mailslot user-back.left

    size-left : Left s (mailslot-back.next + 4) (u32 (length sid) ++ after_head)
    size-left = number-after (u32 (length sid) ++ after_head) 4 m.bits mailslot-back.left

    -- the SID stands where the reader's padding, counted from its own offset, ends
    at-sid : ℕ
    at-sid = mailslot-back.next + 4 + 4

    sid-left : Left s at-sid after_head
    unfolding at-sid
    sid-left = number-after after_head 4 (length sid) size-left

    head_end : length (message_head source m) ≡ at-sid
    head_end = sym (zero-add (length (message_head source m))) ∙ left-same after_head (left_after (message_head source m) after_head head_left) sid-left

    domain-back : Back s (read_sid (eqb (length sid) 0) (length sid) s at-sid) sid after_sid
    domain-back = sid-back sid after_sid (subst (λ (n : ℕ). Left s at-sid (padded_sid n sid ++ after_sid)) head_end sid-left)

    tokens_left : Left s (domain-back.next + 4) tokens
    tokens_left = number-after tokens 4 m.version domain-back.left

    given : Message
    given =
        record {
          repeat = m.repeat;
          computer = computer-back.at;
          user = user-back.at;
          mailslot = mailslot-back.at;
          bits = m.bits;
          sid = domain-back.at;
          version = m.version;
        }

    fields_back : read_fields s ≡ Ok given
    unfolding read_fields given at-sid
    fields_back =
        let fit = good_numbers source m g in
        let r : m.repeat < 256 ^ 2 = omega (arith, fit.0) in
        let b : m.bits < 256 ^ 4 = omega (arith, fit.1) in
        let z : length sid < 256 ^ 4 = omega (arith, longest_message.written source m g, message_length source m) in
        let v : m.version < 256 ^ 4 = omega (arith, fit.2) in
        rw (
          constant_here after_opcode 2 logon_sam_logon_request opcode-left,
          octets_here (u16 m.repeat) (computer ++ (u16 0 ++ after_computer)) 2 (length-little 2 m.repeat) repeat-left,
          computer-back.reads,
          user-back.reads,
          mailslot-back.reads,
          number_here (u32 (length sid) ++ after_head) m.bits b mailslot-back.left,
          number_here after_head (length sid) z size-left,
          domain-back.reads,
          number_here tokens m.version v domain-back.left,
          little-back 2 m.repeat r,
        )
        (tokens_here given tokens_left)

    same_message : SameMessage s given source m
    unfolding given
    same_message =
        record {
          repeat = refl;
          computer = computer-back.stretch;
          user = user-back.stretch;
          mailslot = mailslot-back.stretch;
          bits = refl;
          sid = domain-back.stretch;
          version = refl;
        }

    message_back : message_in s ≡ Ok given
    unfolding message_in
    message_back = rw (message_in, fields_back, good-same s given source m same_message, g)

-- an answer that refuses nothing: the message is good, and the octets are those written
answered : (a b : Bool) (o octets : List ℕ) → refused_if (not a) MailslotShape (refused_if b NoRoom (Ok o)) ≡ Ok octets → (a ≡ true) × (o ≡ octets)
answered false b o octets e = let z : ◌≡◌ {A = ℕ} 0 1 = cc in absurd (omega arith)
answered true true o octets e = let z : ◌≡◌ {A = ℕ} 0 1 = cc in absurd (omega arith)
answered true false o octets e = (refl, cc)

pub round_trip : RoundTrip
unfolding message_for
round_trip source m room octets e =
    let a = answered (good_message source m) (ltb room (length (message_octets source m))) (message_octets source m) octets e in
    subst (λ (x : List ℕ). (q : Message) × (message_in x ≡ Ok q) × SameMessage x q source m) a.1
    (given source m a.0, message_back source m a.0, same_message source m a.0)

pub calls_round_trip : CallsRoundTrip
calls_round_trip source m before after w n r wrote laid answer took = by (message_for source m (length before)) refl
  where
    by : (o : Try (List ℕ)) → message_for source m (length before) ≡ o → (q : Message) × (r ≡ Ok q) × SameMessage (take n after) q source m
    by (Err x) e =
        let f : ◌≡◌ {A = Try ℕ} (Err x) (Ok n) = sym (ap written_as e) ∙ sym wrote.same ∙ answer in
        let z : ◌≡◌ {A = ℕ} 0 1 = cc in
        absurd (omega arith)
    by (Ok octets) e =
        let f : ◌≡◌ {A = Try ℕ} (Ok (length octets)) (Ok n) = sym (ap written_as e) ∙ sym wrote.same ∙ answer in
        let l : length octets ≡ n = cc in
        let t : take n after ≡ octets = ap (take n) (laid ∙ ap (λ (x : Try (List ℕ)). over (written_octets x) before) e) ∙ over_front octets before n l in
        let b = round_trip source m (length before) octets e in
        (b.0, took.same ∙ ap message_in t ∙ b.1, subst (λ (x : List ℕ). SameMessage x b.0 source m) (sym t) b.2)
