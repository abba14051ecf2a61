use Rattle.std.proofs.Common.{ap, arith, length}
use Rattle.table_whole.proofs.Laws.Judgement.{accepted_bounds}
use Rattle.choose.proofs.answer.form_for.Goals as goal

pub server_of-requires : goal.server_of-requires
server_of-requires c = omega (arith, (accepted_bounds c.args.image.now c.octets.ensures.accepted).0, ap length c.octets.ensures.same)
