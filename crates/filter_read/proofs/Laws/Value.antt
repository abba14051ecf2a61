-- What judging a request's values promises, and what it says of the ping.
use Rattle.std.proofs.Common.{Ok, Err, Option, option_map}
use mathlib.Core.Path.{◌≡◌, refl, ap, subst, ◌∙◌}
use mathlib.Core.Bool.{Bool, false, not, ◌||◌}
use mathlib.Core.List.{List}
use Prim.Native.Nat.{ℕ}
use Rattle.answers.specs.declared.Refusal.TheVariants.{ClauseValue}
use Rattle.answers.specs.Try.{Try, number_of, value_of}
use Rattle.answers.proofs.Laws.Try.{refused_if-good, good-same, good_then}
use Rattle.octets.specs.Lists.{holds}
use Rattle.octets.proofs.Laws.Lists.{neither_right}
use Rattle.unicode_text.specs.UserName.{is_user_name}
use Rattle.filter.specs.declared.request.Request.{Request}
use Rattle.filter.specs.Request.{octets_of}
use Rattle.filter_read.specs.Taken.{request_in}
use Rattle.filter_read.specs.Value.{Ping, is_number, wrong_value_lem, version_asked, ping_of, ping_in, ping_from, judged_values, JudgeValuesPromise}

pub judge_values_promised : (filter : List ℕ) (request : Request) (r : Try ℕ) → r ≡ judged_values (ping_in filter request) → JudgeValuesPromise filter request r
judge_values_promised filter request r e =
    let t : Try Ping = ping_in filter request in
    record { same = e; numbered = ap number_of e ∙ numbers t; given = ap value_of e ∙ gives t }
  where
    numbers : (t : Try Ping) → number_of (judged_values t) ≡ number_of t
    numbers (Err x) = refl
    numbers (Ok p) = refl

    gives : (t : Try Ping) → value_of (judged_values t) ≡ option_map (λ (p : Ping). p.version) (value_of t)
    gives (Err x) = refl
    gives (Ok p) = refl

-- after 9 the user is absent or a User value
valued_user : (s : List ℕ) (r : Request) (p : Ping) → ping_in s r ≡ Ok p → holds (λ x. not (is_user_name x)) p.user ≡ false
unfolding ping_in wrong_value_lem
valued_user s r p e =
    let asked : Option (List ℕ) = octets_of s r.«user» in
    let numbers : Bool = holds (λ x. not (is_number x)) (octets_of s r.nt_ver) || holds (λ x. not (is_number x)) (octets_of s r.«aac») in
    let a = refused_if-good (wrong_value_lem s r) ClauseValue (Ok (ping_of s r (version_asked s r))) p e in
    let same : ping_of s r (version_asked s r) ≡ p = good-same a.1 in
    subst (λ (o : Option (List ℕ)). holds (λ x. not (is_user_name x)) o ≡ false) (ap (λ (x : Ping). x.user) same)
    (neither_right numbers (holds (λ x. not (is_user_name x)) asked) a.0)

pub ping-user : (filter : List ℕ) (p : Ping) → ping_from filter ≡ Ok p → holds (λ x. not (is_user_name x)) p.user ≡ false
unfolding ping_from
ping-user filter p e = let r = good_then (request_in filter) _ p e in valued_user filter r.0 p r.2
