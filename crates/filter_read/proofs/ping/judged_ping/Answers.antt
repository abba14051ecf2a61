use Rattle.std.proofs.Common.{Ok, option_map, unwrap_or}
use mathlib.Core.Path.{◌≡◌, sym, ap, ◌∙◌}
use mathlib.Core.Bool.{◌||◌}
use mathlib.Core.List.{List}
use Prim.Native.Nat.{ℕ}
use Rattle.answers.specs.Wire.{netlogon_nt_version_1}
use Rattle.octets.specs.Number.{little}
use Rattle.filter.specs.Request.{Clause, octets_of}
use Rattle.filter_read.specs.Internal.WrongValue.{wrong_number, wrong_user}
use Rattle.filter_read.specs.Value.{wrong_value_lem, version_asked, ping_in}
use Rattle.filter_read.proofs.Laws.WrongValue.{version-right, aac-right}
use Rattle.filter_read.proofs.ping.judged_ping.Goals as goal
use Rattle.filter_read.proofs.ping.judged_ping.Goals.{After-has_wrong_value}

-- 9, as the definition has it of what was gathered
judged : (c : After-has_wrong_value) → wrong_value_lem c.args.s.now c.args.seen.now.request ≡ c.has_wrong_value.result
unfolding wrong_value_lem
judged c =
    let s : List ℕ = c.args.s.now in
    sym (c.has_wrong_value.ensures ∙ λ i. wrong_number s (c.clause-nt_ver.ensures i) || wrong_number s (c.clause-aac.ensures i) || wrong_user s (c.clause-user.ensures i))

pub returns-then-has_wrong_value : goal.returns-then-has_wrong_value
unfolding ping_in
returns-then-has_wrong_value c = rw (ping_in, judged (goal.at.returns-then-has_wrong_value c).After-has_wrong_value ∙ c.if-has_wrong_value.true)

pub number_or-requires : goal.number_or-requires
number_or-requires c = aac-right c.args.s.now c.clause-nt_ver.result c.clause-aac.result c.clause-user.result (sym c.has_wrong_value.ensures ∙ c.if-has_wrong_value.false)

pub number_or-requires-2 : goal.number_or-requires-2
number_or-requires-2 c = version-right c.args.s.now c.clause-nt_ver.result c.clause-aac.result c.clause-user.result (sym c.has_wrong_value.ensures ∙ c.if-has_wrong_value.false)

pub returns : goal.returns
unfolding ping_in version_asked
returns c =
    let s : List ℕ = c.args.s.now in
    let a = c.number_or.ensures ∙ ap (λ (x : Clause). unwrap_or (option_map little (octets_of s x)) 0) c.clause-aac.ensures in
    let v = c.number_or-2.ensures ∙ ap (λ (x : Clause). unwrap_or (option_map little (octets_of s x)) netlogon_nt_version_1) c.clause-nt_ver.ensures in
    rw (ping_in, judged (goal.at.returns c).After-has_wrong_value ∙ c.if-has_wrong_value.false)
    (λ i. Ok (record {
      dns_domain_lem = octets_of s (c.clause.ensures i);
      user = octets_of s (c.clause-user.ensures i);
      aac = a i;
      domain_sid_lem = octets_of s (c.clause-2.ensures i);
      domain_guid_lem = octets_of s (c.clause-3.ensures i);
      version = v i;
    }))
