-- Document 02, #105: what holds of the answers to mailslot messages beside all that holds of every answer. Lists are of any numbers: where a text must come back as
-- it was sent, they are octets.
use Rattle.std.specs.Prelude.{◌≡◌, true, false, List, [], ◌∷◌, ℕ, Ok, Option, None, Some}
use Rattle.answers.specs.declared.Form.{Form}
use Rattle.answers.specs.declared.Form.TheVariants.{Nt40, Response, Ex}
use Rattle.answers.specs.{Try.◌>>=◌, Wire.ds_ndnc_flag}
use Rattle.filter.specs.{declared.request.Request.Request, Request.clause, Request.octets_of}
use Rattle.filter.specs.declared.request.ClauseName.TheVariants.{DnsDomain, User, Aac, DomainSid, DomainGuid, NtVer}
use Rattle.filter_read.specs.Value.{ping_in, ping_from}
use Rattle.locator.specs.Answer.{Outcome, answer_over, answer_by}
use Rattle.mailslot.specs.{declared.message.Message.Message, Message.message_in}
use Rattle.mailslot_answer.specs.Ping.{mailslot_ping}
use Rattle.octets.specs.Number.{little_octets, has}
use Rattle.octets.specs.Stretch.{stretch_of}
use Rattle.reader.specs.{Reader.Nt40Fields, Reader.ResponseFields, Reader.nt40, Reader.response, Reader.read_in}
use Rattle.table.specs.declared.Caller.{Caller}
use Rattle.table_whole.specs.Judgement.{table_in}
use Rattle.transcode.specs.Transcode.{are_octets}
use Rattle.unicode_text.specs.{Utf8.is_utf8, Utf16.utf16}
use Rattle.demands.specs.Derivation.{GivesGoodPings, Parts, ReplyIs}

-- both ways in give only pings whose user 9 lets pass, so that what is said of every answer and of every reply is said of both calls
abbrev pub WaysIn : Type 0
WaysIn = GivesGoodPings ping_from × GivesGoodPings mailslot_ping

-- a text that says what was sent: UTF-8, with just these units
pub record Says (units text : List ℕ) : Type 0 where
  pub utf8 : is_utf8 text ≡ true
  pub same : utf16 text ≡ units

-- a clause that says what was sent: absent where that is empty
abbrev pub SaidBy : (List ℕ → List ℕ → Type 0) → List ℕ → Option (List ℕ) → Type 0
SaidBy P [] clause = clause ≡ None
SaidBy P (x ∷ xs) None = ⊥
SaidBy P (x ∷ xs) (Some text) = P (x ∷ xs) text

-- what a request's clauses, stretches of g, have to be in order to ask what a message asks
pub record AsksAlike (s : List ℕ) (m : Message) (g : List ℕ) (r : Request) : Type 0 where
  pub user : SaidBy Says (stretch_of s m.user) (octets_of g (clause r User))
  pub aac : octets_of g (clause r Aac) ≡ Some (little_octets 4 m.bits)
  pub sid : SaidBy (λ sid octets. octets ≡ sid) (stretch_of s m.sid) (octets_of g (clause r DomainSid))
  pub version : octets_of g (clause r NtVer) ≡ Some (little_octets 4 m.version)
  pub dns : octets_of g (clause r DnsDomain) ≡ None
  pub guid : octets_of g (clause r DomainGuid) ≡ None

-- a message gets, for every image, caller and room, what such clauses get, refusals too
abbrev pub AsFilter : Type 0
AsFilter =
    (s : List ℕ) (m : Message) (g : List ℕ) (r : Request) → are_octets s ≡ true → message_in s ≡ Ok m → AsksAlike s m g r
    → (mailslot_ping s ≡ ping_in g r)
    × ((image : List ℕ) (caller : Caller) (room : ℕ) → answer_by mailslot_ping image caller s room ≡ (table_in image >>= λ t. ping_in g r >>= λ p. answer_over t caller p room))

-- no reply to a message has the flag 400h, also where the default is an application context
abbrev pub NoApplicationFlag : Type 0
NoApplicationFlag =
    (image : List ℕ) (caller : Caller) (message : List ℕ) (room : ℕ) (a : Outcome) → answer_by mailslot_ping image caller message room ≡ Ok a
    → (parts : Parts mailslot_ping image message) × ReplyIs (λ form v r s. has r.flags ds_ndnc_flag ≡ false) parts.table caller parts.ping room a

-- the user of the older forms, as the reader gives it back
abbrev pub UserUnits : Form → List ℕ → List ℕ → Type 0
UserUnits Nt40 s units = (f : Nt40Fields) × (read_in Nt40 0 s ≡ Ok (nt40 f)) × (stretch_of s f.user ≡ units)
UserUnits Response s units = (f : ResponseFields) × (read_in Response 0 s ≡ Ok (response f)) × (stretch_of s f.user ≡ units)
UserUnits Ex s units = Unit {0}

-- what a reply says of the user is the text sent, in EX its own octets for demand 3; and NT40 and RESPONSE have its units exactly as sent
abbrev pub UserAsSent : Type 0
UserAsSent =
    (image : List ℕ) (caller : Caller) (message : List ℕ) (room : ℕ) (a : Outcome) (m : Message)
    → are_octets message ≡ true → message_in message ≡ Ok m → answer_by mailslot_ping image caller message room ≡ Ok a
    → UserUnits a.form a.octets (stretch_of message m.user)
    × ((parts : Parts mailslot_ping image message)
    × ReplyIs (λ form v r s. Says (stretch_of message m.user) r.user) parts.table caller parts.ping room a)
