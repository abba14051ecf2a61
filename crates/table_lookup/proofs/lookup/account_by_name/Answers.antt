use Rattle.std.proofs.Common.{rules, ap, ◌∙◌, option_map}
use mathlib.Core.Bool.{Bool}
use Rattle.table_find.specs.Find.{is_account_of}
use Rattle.table.specs.Account.{Account, account_of}
use Rattle.table_find.proofs.Laws.Find.{account_search}
use Rattle.table_lookup.specs.Lookup.{account_by_name}
use Rattle.table_lookup.proofs.lookup.account_by_name.Goals as goal

pub returns : goal.returns
unfolding account_by_name
returns c =
    let p : Account → Bool = is_account_of c.args.context c.args.name.now in
    record {
      result_value = ap (option_map account_of) (c.first_record.ensures.result_value (λ r. p (account_of r)) (λ r b says. search rules)) ∙ account_search _ p;
      lies_in = c.first_record.ensures.lies_in;
    }
