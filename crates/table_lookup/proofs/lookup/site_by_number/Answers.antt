use Rattle.std.proofs.Common.{rules, ap, ◌∙◌, option_map}
use mathlib.Core.Bool.{Bool}
use Rattle.table.specs.Countings.{same_site_lem}
use Rattle.table.specs.Site.{Site, site_of}
use Rattle.table_find.proofs.Laws.Find.{site_search}
use Rattle.table_lookup.specs.Lookup.{site_by_number}
use Rattle.table_lookup.proofs.lookup.site_by_number.Goals as goal

pub returns : goal.returns
unfolding site_by_number
returns c =
    let p : Site → Bool = λ x. same_site_lem x.number c.args.number in
    record {
      result_value = ap (option_map site_of) (c.first_record.ensures.result_value (λ r. p (site_of r)) (λ r b says. search rules)) ∙ site_search _ p;
      lies_in = c.first_record.ensures.lies_in;
    }
