use native.Mathlib.Omega.{arith}
use Rattle.answers.specs.Wire.{LmNtToken, Lm20Token}
use Rattle.lent.proofs.Laws.OverAt.{laid_none, laid_number}
use Rattle.reply.specs.Reply.{ending}
use Rattle.reply.proofs.fields.put_ending_at.Goals as goal

pub returns : goal.returns
unfolding ending
returns c =
    let a = c.args in
    let v = c.put_u32_at-at in
    let t = c.put_u16_at-at in
    let u = c.put_u16_at in
    let l = laid_number 4 a.version (laid_none a.at a.out.now (omega arith)) v.ensures.value v.ensures.out_after in
    (laid_number 2 LmNtToken (laid_number 2 Lm20Token l t.ensures.value t.ensures.out_after) u.ensures.value u.ensures.out_after).buffer
