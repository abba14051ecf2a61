-- Demand 2's reading of the three calls follows from the reply law, since the reader's two calls together give what the reader's definition does.
use mathlib.Core.Path.{sym, ◌∙◌, subst}
use Rattle.reader_forms.proofs.Laws.Settled.{reading_settled}
use Rattle.demands.specs.Demand2Calls.{ReadsBack, Demand2Calls}
use Rattle.demands.specs.ReplyLaw.{GivenBack, ReadBack}
use Rattle.demands.proofs.Laws.Derivation.{every_reply}
use Rattle.demands.proofs.Laws.ReplyLaw.{reply_law}

pub demand_2_calls : Demand2Calls
demand_2_calls =
    every_reply ReadBack ReadsBack reply_law (λ form v r s back given texts read named.
    let same = reading_settled s form v given texts read named in
    (subst (GivenBack form r s) (sym same.0) back.0, same.1 ∙ back.1))
