-- What holds of the answers to mailslot messages: from the ping that a message is, and the law of every reply.
use Rattle.std.proofs.Common.{Ok, Option, None, Some, option_map, unwrap_or}
use mathlib.Core.Path.{◌≡◌, refl, sym, ap, ◌∙◌, subst}
use mathlib.Core.Bool.{Bool, true, false, not, ◌&&◌}
use mathlib.Core.List.{List, [], ◌∷◌, flat_map}
use Prim.Native.Nat.{ℕ, ◌+◌, ◌<◌}
use native.Mathlib.Nat.{zero-add}
use native.Mathlib.Omega.{arith}
use lib.Dec.{eqb, ltb}
use lib.ListN.{length, drop}
use Rattle.answers.specs.declared.Form.{Form}
use Rattle.answers.specs.declared.Form.TheVariants.{Nt40, Response, Ex}
use Rattle.answers.specs.Try.{Try, ◌>>=◌}
use Rattle.answers.specs.Wire.{netlogon_nt_version_1, ds_pdc_flag, ds_ds_flag, ds_ndnc_flag}
use Rattle.answers.proofs.Laws.Try.{good-same, good_then}
use Rattle.choose.specs.Choose.{flag, response_flags, flags_of, reply_for}
use Rattle.choose.proofs.Laws.ApplicationFlag.{application-flag}
use Rattle.filter.specs.declared.request.Request.{Request}
use Rattle.filter.specs.declared.request.ClauseName.TheVariants.{User, Aac, DomainSid, NtVer}
use Rattle.filter.specs.Request.{clause, octets_of}
use Rattle.filter_read.specs.Value.{Ping, is_number, wrong_value_lem, version_asked, ping_of, ping_in}
use Rattle.filter_read.proofs.Laws.Value.{ping-user}
use Rattle.locator.specs.Answer.{answer_over, answer_by}
use Rattle.mailslot.specs.declared.message.Message.{Message}
use Rattle.mailslot.specs.Message.{message_in}
use Rattle.mailslot_answer.specs.Ping.{unless_empty, message_ping, mailslot_ping}
use Rattle.mailslot_answer.proofs.Laws.Ping.{user_text_lem, user-told, user_passes, bits_fit, version_fits, pinged}
use Rattle.octets.specs.Number.{little, little_octets, has}
use Rattle.octets.specs.Lists.{cut, all, holds}
use Rattle.octets.proofs.Laws.Lists.{all-parts, both_left, both_right}
use Rattle.octets.proofs.Laws.Number.{length-little, little-back}
use Rattle.octets.specs.Stretch.{stretch_of}
use Rattle.reader.specs.Reader.{read_in}
use Rattle.reply.specs.Reply.{Reply}
use Rattle.table.specs.{Site.Site, Table.Table}
use Rattle.table_lookup.specs.Lookup.{client_site_lem}
use Rattle.table_whole.specs.Judgement.{table_in}
use Rattle.transcode.specs.Transcode.{are_octets}
use Rattle.transcode.proofs.Laws.Texts.{to_8}
use Rattle.unicode_text.specs.Utf8.{points_from, is_utf8}
use Rattle.unicode_text.specs.Utf16.{utf16}
use Rattle.unicode_text.proofs.Laws.OneText.{one-text}
use Rattle.demands.specs.Derivation.{GivesGoodPings, GoodPing}
use Rattle.demands.specs.Mailslot.{WaysIn, Says, SaidBy, AsksAlike, AsFilter, NoApplicationFlag, UserUnits, UserAsSent}
use Rattle.demands.specs.ReplyLaw.{GivenBack}
use Rattle.demands.proofs.Laws.Derivation.{derived}
use Rattle.demands.proofs.Laws.ReplyLaw.{reply_law}

-- the ping of a message is what it asks
message_asks : (message : List ℕ) (p : Ping) → mailslot_ping message ≡ Ok p → (m : Message) × (message_in message ≡ Ok m) × (message_ping message m ≡ p)
unfolding mailslot_ping
message_asks message p e = let f = good_then (message_in message) _ p e in (f.0, f.1, good-same f.2)

message_pings : GivesGoodPings mailslot_ping
message_pings message p e = let f = message_asks message p e in subst GoodPing f.2 (user_passes message f.0 f.1)

pub ways_in : WaysIn
ways_in = (ping-user, message_pings)

-- no form has the flag but for a DNS name that was given
no_flag : (form : Form) (t : Table) (message : List ℕ) (m : Message) (site : Option Site) → has (flags_of form t (message_ping message m) site) ds_ndnc_flag ≡ false
unfolding has response_flags
no_flag Nt40 t message m site = refl
no_flag Response t message m site = go (has t.server.roles 1)
  where
    go : (pdc : Bool) → has (flag pdc ds_pdc_flag + ds_ds_flag) ds_ndnc_flag ≡ false
    go true = refl
    go false = refl
no_flag Ex t message m site = application-flag t (message_ping message m) site refl

pub no_application-flag : NoApplicationFlag
unfolding answer_by reply_for
no_application-flag image caller message room a e =
    let t = good_then (table_in image) _ a e in
    let p = good_then (mailslot_ping message) _ a t.2 in
    let f = message_asks message p.0 p.1 in
    let d = derived t.0 caller p.0 room a p.2 in
    let flags = subst (λ (x : Ping). has (flags_of a.form t.0 x (client_site_lem t.0 caller)) ds_ndnc_flag ≡ false) f.2 (no_flag a.form t.0 message f.0 (client_site_lem t.0 caller)) in
    (record { table = t.0; ping = p.0; judged = t.1; pinged = p.1 }, (d, flags))

-- what a text that may be empty says
said-whole : (t : List ℕ) → unwrap_or (unless_empty t) [] ≡ t
said-whole [] = refl
said-whole (x ∷ xs) = refl

octets_stretch : (s : List ℕ) (at n : ℕ) → are_octets s ≡ true → are_octets (cut s at n) ≡ true
octets_stretch s at n o =
    let p : ℕ → Bool = λ x. ltb x 256 in
    let a : all p (drop at s) ≡ true = both_right (all p (cut s 0 at)) (all p (drop at s)) (sym (all-parts p s 0 at ∙ ap (λ (k : ℕ). all p (cut s 0 at) && all p (drop k s)) (zero-add at)) ∙ o) in
    both_left (all p (cut s at n)) (all p (drop (at + n) s)) (sym (all-parts p s at n) ∙ a)

user-back : (form : Form) (r : Reply) (s units : List ℕ) (v : ℕ) → utf16 r.user ≡ units → GivenBack form r s (read_in form v s) → UserUnits form s units
user-back Nt40 r s units v e (f, read, back) = (f, read, back.user.units ∙ e)
user-back Response r s units v e (f, read, back) = (f, read, back.user.units ∙ e)
user-back Ex r s units v e g = tt

-- the empty text has no units
empty_utf8 : is_utf8 [] ≡ true
unfolding is_utf8 points_from
empty_utf8 = refl

empty_units : utf16 [] ≡ []
unfolding utf16 points_from flat_map
empty_units = refl

-- the user's text, by the units that were sent
module _ (s : List ℕ) (m : Message) (o : are_octets s ≡ true) (e : message_in s ≡ Ok m) where
  text_says : Says (stretch_of s m.user) (user_text_lem s m e)
  text_says =
      let t = to_8 (stretch_of s m.user) (user_text_lem s m e) (octets_stretch s m.user.start m.user.len o) (user-told s m e) in
      record { utf8 = t.utf8; same = t.back }

pub user_as_sent : UserAsSent
unfolding reply_for
user_as_sent image caller message room a m o em e =
    let law = reply_law mailslot_ping message_pings image caller message room a e in
    let parts = law.0 in
    let asked : message_ping message m ≡ parts.ping = good-same (sym (pinged message m em) ∙ parts.pinged) in
    let text : unwrap_or parts.ping.user [] ≡ user_text_lem message m em = sym (ap (λ (p : Ping). unwrap_or p.user []) asked) ∙ said-whole (user_text_lem message m em) in
    let said : Says (stretch_of message m.user) (user_text_lem message m em) = text_says message m o em in (
      user-back a.form _ a.octets (stretch_of message m.user) _ (ap utf16 text ∙ said.same) law.1.1.0,
      (parts, (law.1.0, subst (Says (stretch_of message m.user)) (sym text) said)),
    )

-- ---- a message as a filter

number-said : (n : ℕ) (c : Option (List ℕ)) → n < 0x100000000 → c ≡ Some (little_octets 4 n) → (d : ℕ) → unwrap_or (option_map little c) d ≡ n
number-said n c h e d = ap (λ (x : Option (List ℕ)). unwrap_or (option_map little x) d) e ∙ little-back 4 n h

four_octets : (n : ℕ) (c : Option (List ℕ)) → c ≡ Some (little_octets 4 n) → holds (λ x. not (is_number x)) c ≡ false
four_octets n c e = ap (λ (x : Option (List ℕ)). holds (λ y. not (is_number y)) x) e ∙ ap (λ (k : ℕ). not (eqb k 4)) (length-little 4 n)

-- the clause that says a text is the one that the ping has
same-clause : (P : List ℕ → List ℕ → Type 0) (sent text : List ℕ) (c : Option (List ℕ)) → SaidBy P sent c → (sent ≡ [] → text ≡ []) → (text ≡ [] → sent ≡ [])
    → ((t : List ℕ) → P sent t → t ≡ text) → c ≡ unless_empty text
same-clause P [] text c h f g same = h ∙ ap unless_empty (sym (f refl))
same-clause P (x ∷ xs) text None h f g same = absurd h
same-clause P (x ∷ xs) [] (Some t) h f g same = absurd (omega (arith, ap length (g refl)))
same-clause P (x ∷ xs) (y ∷ ys) (Some t) h f g same = ap Some (same t h)

module _ (s : List ℕ) (m : Message) (g : List ℕ) (r : Request) (o : are_octets s ≡ true) (e : message_in s ≡ Ok m) (alike : AsksAlike s m g r) where
  abbrev units : List ℕ
  units = stretch_of s m.user

  same-user : octets_of g (clause r User) ≡ unless_empty (user_text_lem s m e)
  same-user =
      let said = text_says s m o e in
      same-clause Says units (user_text_lem s m e) (octets_of g (clause r User)) alike.user
      (λ q. one-text (user_text_lem s m e) [] said.utf8 empty_utf8 (said.same ∙ q ∙ sym empty_units))
      (λ q. sym said.same ∙ ap utf16 q ∙ empty_units)
      (λ t h. one-text t (user_text_lem s m e) h.utf8 said.utf8 (h.same ∙ sym said.same))

  same-sid : octets_of g (clause r DomainSid) ≡ unless_empty (stretch_of s m.sid)
  same-sid = same-clause (λ sid octets. octets ≡ sid) (stretch_of s m.sid) (stretch_of s m.sid) (octets_of g (clause r DomainSid)) alike.sid (λ q. q) (λ q. q) (λ t h. h)

  right_values : wrong_value_lem g r ≡ false
  unfolding wrong_value_lem
  right_values =
      rw (four_octets m.version (octets_of g (clause r NtVer)) alike.version, four_octets m.bits (octets_of g (clause r Aac)) alike.aac, same-user) (user_passes s m e)

  same-ping : ping_of g r (version_asked g r) ≡ message_ping s m
  unfolding version_asked
  same-ping =
      let version = number-said m.version (octets_of g (clause r NtVer)) (version_fits s m e) alike.version netlogon_nt_version_1 in
      let aac = number-said m.bits (octets_of g (clause r Aac)) (bits_fit s m e) alike.aac 0 in
      λ i. record { dns_domain_lem = alike.dns i; user = same-user i; aac = aac i; domain_sid_lem = same-sid i; domain_guid_lem = alike.guid i; version = version i }

  asked_alike : mailslot_ping s ≡ ping_in g r
  unfolding ping_in
  asked_alike = pinged s m e ∙ sym (rw right_values (ap Ok same-ping))

pub as_filter : AsFilter
unfolding answer_by
as_filter s m g r o e alike = let same = asked_alike s m g r o e alike in (
  same,
  λ image caller room. ap (λ (x : Try Ping). table_in image >>= λ (t : Table). x >>= λ (p : Ping). answer_over t caller p room) same,
)
