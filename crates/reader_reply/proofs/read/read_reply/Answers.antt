use Rattle.reader_forms.proofs.Laws.Reading.{read_reply_promised}
use Rattle.reader_reply.proofs.read.read_reply.Goals as goal

pub returns-in-Nt40 : goal.returns-in-Nt40
returns-in-Nt40 c = read_reply_promised _ _ _ _ (rw c.in-Nt40.is c.read_nt40.ensures)

pub returns-in-Response : goal.returns-in-Response
returns-in-Response c = read_reply_promised _ _ _ _ (rw c.in-Response.is c.read_response.ensures)

pub returns-in-Ex : goal.returns-in-Ex
returns-in-Ex c = read_reply_promised _ _ _ _ (rw c.in-Ex.is c.read_ex.ensures)
