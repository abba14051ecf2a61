use Rattle.std.proofs.Common.{◌≡◌, ap, ◌∙◌, rules, List, ℕ, None, Some, option_map}
use Rattle.octets.specs.Lists.{first, cut}
use Rattle.table.specs.declared.SiteNumber.{SiteNumber}
use Rattle.table.specs.Site.{Site, site_format, site_of}
use Rattle.table.specs.Table.{table_from}
use Rattle.table_whole.proofs.Laws.Judgement.{accepted-whole}
use Rattle.table_find.specs.Internal.Found.{site_at}
use Rattle.table_find.proofs.Laws.Find.{site_search}
use Rattle.table_lookup.specs.Lookup.{client_site_lem}
use Rattle.table_lookup.proofs.Laws.ClientSite.{any_site, other_than, no_site, lone-site, several_sites}
use Rattle.table_lookup.proofs.lookup.client_site.Goals as goal

pub returns-in_err-first-clause-result_value : goal.returns-in_err-first-clause-result_value
unfolding client_site_lem
returns-in_err-first-clause-result_value c =
    let a = c.args in
    let t = table_from a.image.now in
    let nothing : None ≡ first any_site t.sites = ap (option_map site_of) (c.in_err-first.ensures.result_value (λ r. any_site (site_of r)) (λ r b says. search rules)) ∙ site_search _ any_site in
    let none : c.from_residual.result ≡ None = search rules in
    ap (site_at a.image.now) none ∙ no_site t a.caller t.sites nothing

pub returns-in-Some-clause-result_value : goal.returns-in-Some-clause-result_value
unfolding client_site_lem
returns-in-Some-clause-result_value c =
    let a = c.args in
    let t = table_from a.image.now in
    let n = c.number-number.result in
    let own : Site = site_of (cut a.image.now c.in_ok-first.first site_format.width) in
    let number : n ≡ own.number =
    c.number-number.ensures ∙ ap (λ (r : List ℕ). (site_of r).number) (c.part.ensures ∙ ap (λ (s : List ℕ). cut s c.in_ok-first.first site_format.width) c.octets.ensures.same) in
    let there : Some own ≡ first any_site t.sites = ap (option_map site_of) (c.in_ok-first.ensures.result_value (λ r. any_site (site_of r)) (λ r b says. search rules)) ∙ site_search _ any_site in
    let other = ap (option_map site_of) (c.in-Some.ensures.result_value (λ r. other_than n (site_of r)) (λ r b says. search rules)) ∙ site_search _ (other_than n) ∙ ap (λ (m : SiteNumber). first (other_than m) t.sites) number in
    c.site_by_subnet.ensures.result_value ∙ several_sites t a.caller t.sites own _ there other

pub returns-in-None-clause-result_value : goal.returns-in-None-clause-result_value
unfolding client_site_lem
returns-in-None-clause-result_value c =
    let a = c.args in
    let t = table_from a.image.now in
    let n = c.number-number.result in
    let own : Site = site_of (cut a.image.now c.in_ok-first.first site_format.width) in
    let number : n ≡ own.number =
    c.number-number.ensures ∙ ap (λ (r : List ℕ). (site_of r).number) (c.part.ensures ∙ ap (λ (s : List ℕ). cut s c.in_ok-first.first site_format.width) c.octets.ensures.same) in
    let there : Some own ≡ first any_site t.sites = ap (option_map site_of) (c.in_ok-first.ensures.result_value (λ r. any_site (site_of r)) (λ r b says. search rules)) ∙ site_search _ any_site in
    let none_other = ap (option_map site_of) (c.in-None.ensures.result_value (λ r. other_than n (site_of r)) (λ r b says. search rules)) ∙ site_search _ (other_than n) ∙ ap (λ (m : SiteNumber). first (other_than m) t.sites) number in
    lone-site t a.caller t.sites own (accepted-whole a.image.now c.octets.ensures.accepted).sites there none_other
