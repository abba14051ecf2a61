-- Document 01, "Answer numbers" 9: the values of a request's clauses, judged over the whole filter. Document 02, #101: the version asked.
use Rattle.std.specs.Prelude.{◌≡◌, Bool, not, ◌||◌, List, ℕ, eqb, length, Ok, Option, option_map, unwrap_or}
use Rattle.answers.specs.declared.Refusal.TheVariants.{ClauseValue}
use Rattle.answers.specs.Wire.{netlogon_nt_version_1}
use Rattle.answers.specs.Try.{Try, refused_if, ◌>>=◌, number_of, value_of}
use Rattle.octets.specs.{Lists.holds, Number.little}
use Rattle.unicode_text.specs.UserName.{is_user_name}
use Rattle.filter_read.specs.Taken.{request_in}
use Rattle.filter.specs.{declared.request.Request.Request, Request.octets_of}

-- what the clauses of a request say that the answer goes by: absent, or their octets; an absent AAC is 0
pub record Ping : Type 0 where
  pub dns_domain_lem : Option (List ℕ)
  pub user : Option (List ℕ)
  pub aac : ℕ
  pub domain_sid_lem : Option (List ℕ)
  pub domain_guid_lem : Option (List ℕ)
  pub version : ℕ

-- the octets of a number are four
abbrev pub is_number : List ℕ → Bool
is_number s = eqb (length s) 4

-- 9: NtVer or AAC not 4 octets; User over 63, not UTF-8, or holding a zero octet
unfoldable pub wrong_value_lem : List ℕ → Request → Bool
wrong_value_lem s r =
    holds (λ x. not (is_number x)) (octets_of s r.nt_ver)
    || holds (λ x. not (is_number x)) (octets_of s r.«aac»)
    || holds (λ x. not (is_user_name x)) (octets_of s r.«user»)

-- the version asked: the number of NtVer, and 1 where it is absent
unfoldable pub version_asked : List ℕ → Request → ℕ
version_asked s r = unwrap_or (option_map little (octets_of s r.nt_ver)) netlogon_nt_version_1

abbrev pub ping_of : List ℕ → Request → ℕ → Ping
ping_of s r v =
    record {
      dns_domain_lem = octets_of s r.dns_domain;
      user = octets_of s r.«user»;
      aac = unwrap_or (option_map little (octets_of s r.«aac»)) 0;
      domain_sid_lem = octets_of s r.domain_sid;
      domain_guid_lem = octets_of s r.domain_guid;
      version = v;
    }

unfoldable pub ping_in : List ℕ → Request → Try Ping
ping_in s r = refused_if (wrong_value_lem s r) ClauseValue (Ok (ping_of s r (version_asked s r)))

-- 5 to 9: the ping of a filter
unfoldable pub ping_from : List ℕ → Try Ping
ping_from filter = do
  r ← request_in filter
  ping_in filter r

-- the answer of judging a request's values: the version asked
abbrev pub judged_values : Try Ping → Try ℕ
judged_values t = t >>= λ p. Ok p.version

-- what `judge_values` promises: the answer, with its number and the version asked, none with a refusal
pub record JudgeValuesPromise (filter : List ℕ) (request : Request) (r : Try ℕ) : Type 0 where
  pub same : r ≡ judged_values (ping_in filter request)
  pub numbered : number_of r ≡ number_of (ping_in filter request)
  pub given : value_of r ≡ option_map (λ p. p.version) (value_of (ping_in filter request))
