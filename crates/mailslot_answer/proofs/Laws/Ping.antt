-- The ping of a message that reads: its clauses as the code lays them out, and that 9 lets its user pass.
use Rattle.std.proofs.Common.{Ok, Err, Option, None, Some, unwrap_or}
use mathlib.Core.Path.{◌≡◌, refl, sym, ap, ◌∙◌, subst}
use mathlib.Core.Bool.{true, false, not, ◌&&◌}
use mathlib.Core.List.{List, [], ◌∷◌, ◌++◌, append_assoc}
use Prim.Native.Nat.{ℕ, ◌+◌, ◌-◌, ◌≤◌, ◌<◌}
use native.Mathlib.Omega.{arith}
use lib.Dec.{leb}
use lib.ListN.{length, drop}
use borrow.Author.Tests.{leb-true, not-false}
use Rattle.answers.specs.Try.{Try, ◌>>=◌}
use Rattle.answers.proofs.Laws.Try.{good-same, good_then, refused_if-good}
use Rattle.octets.specs.declared.part.Stretch.{Stretch}
use Rattle.filter.specs.Request.{octets_of}
use Rattle.filter_read.specs.Internal.RawPing.{ping_at}
use Rattle.lent.specs.Internal.OverAt.{over_at}
use Rattle.lent.proofs.Laws.OverAt.{laid_over, laid_more, over_laid}
use Rattle.octets.specs.{Buffer.over, Lists.cut, Lists.holds, NameRule.without, NameRule.user_name_most}
use Rattle.octets.proofs.Laws.Lists.{both_left, true_not_false, cut-after}
use Rattle.octets.specs.Stretch.{stretch_of}
use Rattle.unicode_text.specs.{UserName.is_user_name, Utf8.is_utf8, Utf16.utf8_from16}
use Rattle.answers.specs.declared.Refusal.{Refusal}
use Rattle.mailslot.specs.declared.message.Message.{Message}
use Rattle.mailslot.specs.Message.{is_message_user, good_message, read_fields, as_shape, message_in}
use Rattle.mailslot.proofs.Laws.Longest.{sid-most}
use Rattle.mailslot.proofs.Laws.Shape.{good-parts, good_numbers}
use Rattle.transcode.specs.Internal.Text8.{utf8_text}
use Rattle.mailslot_answer.specs.Ping.{unless_empty, message_ping, mailslot_ping}
use Rattle.mailslot_answer.specs.Internal.Source.{ClauseAt}

-- what a good user is in UTF-8
user-text : (s : List ℕ) → is_message_user s ≡ true → (t : List ℕ) × (utf8_from16 s ≡ Some t) × (is_user_name t ≡ true)
unfolding is_message_user
user-text s e = go (utf8_from16 s) refl e
  where
    go : (o : Option (List ℕ)) → utf8_from16 s ≡ o → holds is_user_name o ≡ true → (t : List ℕ) × (utf8_from16 s ≡ Some t) × (is_user_name t ≡ true)
    go None q h = absurd (true_not_false (sym h))
    go (Some t) q h = (t, q, h)

user-short : (t : List ℕ) → is_user_name t ≡ true → length t ≤ user_name_most
unfolding is_user_name
user-short t e = leb-true (length t) user_name_most (both_left (leb (length t) user_name_most) (is_utf8 t) (both_left (leb (length t) user_name_most && is_utf8 t) (without 0 t) e))

module _ (s : List ℕ) (m : Message) (e : message_in s ≡ Ok m) where
  good_message_lem : good_message s m ≡ true
  unfolding message_in
  good_message_lem =
      let f = good_then (as_shape (read_fields s)) _ m e in
      let g = refused_if-good (not (good_message s f.0)) _ (Ok f.0) m f.2 in
      subst (λ (x : Message). good_message s x ≡ true) (good-same g.1) (not-false (good_message s f.0) g.0)

  good-user : is_message_user (stretch_of s m.user) ≡ true
  good-user = (good-parts s m good_message_lem).user

  sid_fits : length (stretch_of s m.sid) ≤ 68
  sid_fits = sid-most (stretch_of s m.sid) (good-parts s m good_message_lem).sid

  pub bits_fit : m.bits < 0x100000000
  bits_fit = (good_numbers s m good_message_lem).1

  pub version_fits : m.version < 0x100000000
  version_fits = (good_numbers s m good_message_lem).2

  -- its octets in UTF-8
  abbrev pub user_text_lem : List ℕ
  user_text_lem = unwrap_or (utf8_from16 (stretch_of s m.user)) []

  pub user-told : utf8_from16 (stretch_of s m.user) ≡ Some user_text_lem
  user-told = let t = user-text (stretch_of s m.user) good-user in t.1 ∙ ap Some (sym (ap (λ (o : Option (List ℕ)). unwrap_or o []) t.1))

  pub user-name : is_user_name user_text_lem ≡ true
  user-name =
      let t = user-text (stretch_of s m.user) good-user in
      ap (λ (o : Option (List ℕ)). is_user_name (unwrap_or o [])) t.1 ∙ t.2

  user_fits : length user_text_lem ≤ 63
  user_fits = user-short user_text_lem user-name

  -- of octets that are the user's units, and of those that are the SID
  pub user_room : (x : List ℕ) → x ≡ stretch_of s m.user → length (utf8_text x) ≤ 63
  user_room x q = subst (λ (y : List ℕ). length (utf8_text y) ≤ 63) (sym q) user_fits

  pub sid_room_lem : (x : List ℕ) → x ≡ stretch_of s m.sid → length x ≤ 68
  sid_room_lem x q = subst (λ (y : List ℕ). length y ≤ 68) (sym q) sid_fits

  pub user_passes : holds (λ x. not (is_user_name x)) (message_ping s m).user ≡ false
  user_passes = go user_text_lem user-name
    where
      go : (t : List ℕ) → is_user_name t ≡ true → holds (λ x. not (is_user_name x)) (unless_empty t) ≡ false
      go [] h = refl
      go (x ∷ xs) h = ap not h

  pub pinged : mailslot_ping s ≡ Ok (message_ping s m)
  unfolding mailslot_ping
  pinged = ap (λ (o : Try Message). o >>= λ (x : Message). Ok (message_ping s x)) e

pub not_pinged : (s : List ℕ) (x : Refusal) → message_in s ≡ Err x → mailslot_ping s ≡ Err x
unfolding mailslot_ping
not_pinged s x e = ap (λ (o : Try Message). o >>= λ (m : Message). Ok (message_ping s m)) e

-- a clause by its length, as the code makes it
module _ (start len : ℕ) where
  pub absent-clause : len ≡ 0 → ClauseAt start len None
  absent-clause e s [] q l = refl
  absent-clause e s (y ∷ ys) q l = absurd (omega arith)

  pub present_clause : (len ≡ 0 → ⊥) → ClauseAt start len (Some (record { start = start; len = len }))
  present_clause n s [] q l = absurd (n (sym l))
  present_clause n s (y ∷ ys) q l = ap Some q

-- the user and the SID at the front of a source, each as its stretch
module _ (t x d : List ℕ) (now : List ℕ) (e : now ≡ over (t ++ x) d) where
  laid_out : now ≡ t ++ (x ++ drop (length (t ++ x)) d)
  unfolding over
  laid_out = e ∙ append_assoc t x (drop (length (t ++ x)) d)

  pub front_cut : cut now 0 (length t) ≡ t
  front_cut = ap (λ (y : List ℕ). cut y 0 (length t)) laid_out ∙ cut-after [] t (x ++ drop (length (t ++ x)) d)

  pub back_cut : cut now (length t) (length x) ≡ x
  back_cut = ap (λ (y : List ℕ). cut y (length t) (length x)) laid_out ∙ cut-after t x (drop (length (t ++ x)) d)

-- what was put makes the ping: the user as UTF-8, then the SID, by the stretches that hold them
pub ping_made : (s : List ℕ) (m : Message) (units sid d now now' : List ℕ) (n n' : ℕ) (userClause sidClause : Option Stretch)
    → units ≡ stretch_of s m.user → sid ≡ stretch_of s m.sid
    → n ≡ length (utf8_text units) → now ≡ over (utf8_text units) d → n' ≡ n + length sid → now' ≡ over_at n sid now
    → ClauseAt 0 n userClause → ClauseAt n (n' - n) sidClause
    → ping_at now' (record { dns_domain = None; «user» = userClause; «aac» = m.bits; domain_sid = sidClause; domain_guid = None; «version» = m.version }) ≡ message_ping s m
ping_made s m units sid d now now' n n' userClause sidClause p q e f e' f' user-at sid-at =
    let t : List ℕ = utf8_text units in
    let l : now' ≡ over (t ++ sid) d = over_laid (laid_more sid (laid_over f e) e' f') in
    let k : n' - n ≡ length sid = omega arith in
    let a : octets_of now' userClause ≡ unless_empty t = user-at now' t (ap (cut now' 0) e ∙ front_cut t sid d now' l) (sym e) in
    let x : cut now' n (n' - n) ≡ sid = ap (cut now' n) k ∙ ap (λ (i : ℕ). cut now' i (length sid)) e ∙ back_cut t sid d now' l in
    let b : octets_of now' sidClause ≡ unless_empty sid = sid-at now' sid x (sym k) in
    let user : octets_of now' userClause ≡ unless_empty (utf8_text (stretch_of s m.user)) = a ∙ ap (λ (y : List ℕ). unless_empty (utf8_text y)) p in
    let domain : octets_of now' sidClause ≡ unless_empty (stretch_of s m.sid) = b ∙ ap unless_empty q in
    λ i. record { dns_domain_lem = None; user = user i; aac = m.bits; domain_sid_lem = domain i; domain_guid_lem = None; version = m.version }
