use Rattle.choose.specs.Choose.{opcode_of}
use Rattle.choose.proofs.answer.opcode_of.Goals as goal

pub returns-in-Nt40 : goal.returns-in-Nt40
returns-in-Nt40 c = rw c.in-Nt40.is c.older_opcode.ensures

pub returns-in-Response : goal.returns-in-Response
unfolding opcode_of
returns-in-Response c = rw c.in-Response.is c.older_opcode-in-Response.ensures

pub returns-in-Ex : goal.returns-in-Ex
returns-in-Ex c = rw c.in-Ex.is c.ex_opcode.ensures
