use mathlib.Core.Path.{ap}
use native.Mathlib.Omega.{arith}
use lib.ListN.{length}
use Rattle.lent.specs.declared.stretch.Stretch.{Stretch}
use Rattle.lent.specs.Internal.Stretch.{octets_at}
use Rattle.reply.specs.Reply.{text16}
use Rattle.reply.specs.Internal.RawReply.{reply_in}
use Rattle.reply.proofs.Laws.Reply.{opening-length}
use Rattle.reply_plan.proofs.size.opening_size.Goals as goal

pub returns : goal.returns
returns c =
    let a = c.args in
    let size = λ (s : Stretch). length (text16 (octets_at a.lent.table.now a.lent.request.now s)) in (
      omega (
        arith,
        opening-length (reply_in a.lent.table.now a.lent.request.now a.raw.now),
        c.text_size.ensures,
        c.text_size-2.ensures,
        c.text_size-3.ensures,
        ap size c.text.ensures,
        ap size c.text-2.ensures,
        ap size c.text-3.ensures,
      ),
      omega (arith, c.text_size.ensures, c.text_size-2.ensures, c.text_size-3.ensures),
    )
