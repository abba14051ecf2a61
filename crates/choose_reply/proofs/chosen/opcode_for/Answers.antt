use Rattle.std.proofs.Common.{ap, arith, length}
use Rattle.table_whole.proofs.Laws.Judgement.{accepted_bounds}
use Rattle.choose_reply.proofs.chosen.opcode_for.Goals as goal

pub server_of-requires : goal.server_of-requires
server_of-requires c = omega (arith, (accepted_bounds c.args.image.now c.octets.ensures.accepted).0, ap length c.octets.ensures.same)

pub returns : goal.returns
returns c = rw (c.opcode_of.ensures, c.is_held_back-held_back.ensures, c.is_user_unknown.ensures, c.server_of.ensures, c.octets.ensures.same)
