use Rattle.choose.specs.Choose.{opcode_of}
use Rattle.choose.proofs.answer.ex_opcode.Goals as goal

pub returns-then-held_back : goal.returns-then-held_back
unfolding opcode_of
returns-then-held_back c = rw c.if-held_back.true

pub returns-then-unknown : goal.returns-then-unknown
unfolding opcode_of
returns-then-unknown c = rw (c.if-held_back.false, c.if-unknown.true)

pub returns : goal.returns
unfolding opcode_of
returns c = rw (c.if-held_back.false, c.if-unknown.false)
