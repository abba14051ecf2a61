-- A reply as it is planned: the names that its form writes, and its length.
use Rattle.std.specs.Prelude.{◌≡◌, Bool, true, false, List, [], ◌++◌, ℕ, length, get_or, take, Option, None, Some}
use Rattle.answers.specs.declared.Form.{Form}
use Rattle.answers.specs.declared.Form.TheVariants.{Nt40, Response, Ex}
use Rattle.answers.specs.Wire.{ex_version, ex_version_with_next_site}
use Rattle.names.specs.declared.plan.PlannedName.{PlannedName}
use Rattle.names.specs.Name.{write_name, write_names}
use Rattle.names.specs.Internal.Plan.{blank_name, Fit, AllFit, name_octets, names_tails, writing_of, writings_of}
use Rattle.reply.specs.declared.raw.RawReply.{RawReply}
use Rattle.reply.specs.declared.plan.Plan.{Plan}
use Rattle.reply.specs.Reply.{Reply, ending, response_head, response_names, ex_head, ex_names, address_if, octets_in}
use Rattle.reply.specs.Internal.RawReply.{reply_in}

-- before name 8, or before the version where there is none
unfoldable pub ex_front : Reply → List ℕ
ex_front r = ex_head r ++ (write_names [] (length (ex_head r)) (ex_names r)).octets ++ address_if r.with_address_lem r.ipv4

-- name 8 in the plan
abbrev pub last_name : List PlannedName → PlannedName
last_name names = get_or names 8 blank_name

module _ (table request : List ℕ) where
  -- name 8 and the version by it, as planned
  abbrev pub last_octets : Bool → PlannedName → List ℕ
  last_octets true name = name_octets table request name ++ ending ex_version_with_next_site
  last_octets false name = ending ex_version

  abbrev pub LastFits : Bool → PlannedName → Type 0
  LastFits true name = Fit table request name
  LastFits false name = Unit {0}

  pub record ResponsePlan (r : Reply) (names : List PlannedName) : Type 0 where
    pub fit : AllFit table request (take 3 names)
    pub writes : write_names [] (length (response_head r)) (response_names r) ≡ writings_of table request (take 3 names)

  -- name 8 is planned after the eight others
  abbrev pub NextPlan : Option (List ℕ) → List PlannedName → ℕ → Type 0
  NextPlan None names at = Unit {0}
  NextPlan (Some text) names at =
      Fit table request (last_name names) × (write_name (names_tails table request (take 8 names)) at text ≡ writing_of table request (last_name names))

  pub record ExPlan (r : Reply) (names : List PlannedName) : Type 0 where
    pub fit : AllFit table request (take 8 names)
    pub writes : write_names [] (length (ex_head r)) (ex_names r) ≡ writings_of table request (take 8 names)
    pub next : NextPlan r.next_site_lem names (length (ex_front r))

  abbrev pub NamesPlan : Form → Reply → List PlannedName → Type 0
  NamesPlan Nt40 r names = Unit {0}
  NamesPlan Response r names = ResponsePlan r names
  NamesPlan Ex r names = ExPlan r names

  pub record PlanOf (form : Form) (raw : RawReply) (plan : Plan) : Type 0 where
    pub names : NamesPlan form (reply_in table request raw) plan.«names»
    pub whole : plan.«length» ≡ length (octets_in form (reply_in table request raw))
