use Rattle.std.proofs.Common.{◌≡◌, sym, ap, ◌∙◌, rules, arith, length, ◌&&◌, List, ℕ, Option, None, option_map}
use Rattle.answers.specs.Wire.{netlogon_nt_version_with_closest_site}
use Rattle.octets.specs.Number.{has}
use Rattle.octets.specs.Lists.{cut}
use Rattle.table.specs.Bits.{role_level2008}
use Rattle.table.specs.Site.{Site, site_of, site_format}
use Rattle.table.specs.Table.{table_from}
use Rattle.table_whole.proofs.Laws.Judgement.{accepted_bounds}
use Rattle.table_find.specs.Internal.Found.{site_at}
use Rattle.table_lookup.specs.Lookup.{site_if_any}
use Rattle.choose.specs.Choose.{next_site_lem}
use Rattle.choose_site.proofs.Laws.NextSite.{next_unasked, next_of_none, next_of}
use Rattle.choose_site.proofs.site.next_site.Goals as goal
use Rattle.choose_site.proofs.site.next_site.Goals.{After-has_bits-2}

-- it is asked for, and the level is there
asked : (c : After-has_bits-2)
    → (has c.args.version netlogon_nt_version_with_closest_site && has (table_from c.args.image.now).server.roles role_level2008)
    ≡ (c.has_bits.result && c.has_bits-2.result)
asked c = rw (c.has_bits.ensures, c.has_bits-2.ensures, c.roles-roles.ensures, c.server_of.ensures, c.octets-octets.ensures.same)

pub server_of-requires : goal.server_of-requires
server_of-requires c = omega (arith, (accepted_bounds c.args.image.now c.octets-octets.ensures.accepted).0, ap length c.octets-octets.ensures.same)

pub returns-then-not-has_bits-clause-result_value : goal.returns-then-not-has_bits-clause-result_value
returns-then-not-has_bits-clause-result_value c =
    next_unasked (table_from c.args.image.now) c.args.version _ (asked (goal.at.returns-then-not-has_bits-clause-result_value c).After-has_bits-2 ∙ c.if-not-has_bits.true)

pub returns-in_err-client-clause-result_value : goal.returns-in_err-client-clause-result_value
returns-in_err-client-clause-result_value c =
    let a = c.args in
    let t = table_from a.image.now in
    let none : c.from_residual.result ≡ None = search rules in
    let wanted = asked (goal.at.returns-in_err-client-clause-result_value c).After-has_bits-2 ∙ c.if-not-has_bits.false in
    ap (λ (o : Option ℕ). option_map (λ (s : Site). s.name) (site_at a.image.now o)) none
    ∙ next_of_none t a.version wanted
    ∙ ap (λ (o : Option ℕ). next_site_lem t a.version (site_at a.image.now o)) (sym c.in_err-client.was)

pub returns-clause-result_value : goal.returns-clause-result_value
returns-clause-result_value c =
    let a = c.args in
    let t = table_from a.image.now in
    let client = site_of (cut a.image.now c.in_ok-client.field-0 site_format.width) in
    let next = c.next.ensures ∙ ap (λ (r : List ℕ). (site_of r).next) (c.part.ensures ∙ ap (λ (s : List ℕ). cut s c.in_ok-client.field-0 site_format.width) c.octets-octets.ensures.same) in
    let name = ap (option_map (λ (s : Site). s.name)) (c.site_if_any.ensures.result_value ∙ ap (site_if_any t) next) in
    let wanted = asked (goal.at.returns-clause-result_value c).After-has_bits-2 ∙ c.if-not-has_bits.false in
    name ∙ next_of t a.version wanted client ∙ ap (λ (o : Option ℕ). next_site_lem t a.version (site_at a.image.now o)) (sym c.in_ok-client.was)
