use mathlib.Core.Path.{ap}
use native.Mathlib.Omega.{arith}
use lib.ListN.{length}
use Rattle.lent.proofs.Laws.Stretch.{text_short}
use Rattle.reply_plan.proofs.size.stretch_size.Goals as goal

pub returns : goal.returns
returns c =
    let a = c.args in
    let e = ap length c.text.ensures in
    (e, omega (arith, text_short a.lent.table.now a.lent.request.now a.stretch))
