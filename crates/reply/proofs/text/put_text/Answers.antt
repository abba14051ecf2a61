use native.Mathlib.Omega.{arith}
use Rattle.lent.proofs.Laws.OverAt.{laid_over, laid_number, over_laid, length_laid}
use Rattle.reply.specs.Reply.{text16}
use Rattle.reply.proofs.Laws.Reply.{text-length}
use Rattle.reply.proofs.text.put_text.Goals as goal

pub put_utf16-at-requires : goal.put_utf16-at-requires
put_utf16-at-requires c = (c.requires.0, omega (arith, text-length c.args.s.now))

pub put_u16_at-requires : goal.put_u16_at-requires
put_u16_at-requires c = omega (arith, text-length c.args.s.now)

pub returns : goal.returns
unfolding text16
returns c =
    let h = c.put_utf16-at in
    let w = c.put_u16_at in
    let l = laid_number 2 0 (laid_over h.ensures.out_after h.ensures.value) w.ensures.value w.ensures.out_after in
    record {
      value = length_laid l;
      out_after = over_laid l;
    }
