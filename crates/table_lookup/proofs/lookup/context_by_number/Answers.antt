use Rattle.std.proofs.Common.{rules, ap, ◌∙◌, option_map}
use mathlib.Core.Bool.{Bool}
use Rattle.table.specs.Countings.{same_context}
use Rattle.table.specs.Context.{Context, context_of}
use Rattle.table_find.proofs.Laws.Find.{context_search}
use Rattle.table_lookup.specs.Lookup.{context_by_number}
use Rattle.table_lookup.proofs.lookup.context_by_number.Goals as goal

pub returns : goal.returns
unfolding context_by_number
returns c =
    let p : Context → Bool = λ x. same_context x.number c.args.number in
    record {
      result_value = ap (option_map context_of) (c.first_record.ensures.result_value (λ r. p (context_of r)) (λ r b says. search rules)) ∙ context_search _ p;
      lies_in = c.first_record.ensures.lies_in;
    }
