use Rattle.choose.proofs.flags.flags_of.Goals as goal

pub returns-in-Response : goal.returns-in-Response
returns-in-Response c = rw (c.in-Response.is, c.flag_if.ensures.0, c.has_bits.ensures)

pub returns-in-Ex : goal.returns-in-Ex
returns-in-Ex c = rw c.in-Ex.is c.ex_flags.ensures
