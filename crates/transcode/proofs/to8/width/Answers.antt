use mathlib.Core.Path.{refl, sym, ap}
use native.Mathlib.Omega.{arith}
use lib.ListN.{length}
use Rattle.unicode_text.proofs.Laws.Utf8.{of_one, of_two, of_three, of_four}
use Rattle.transcode.proofs.to8.width.Goals as goal

pub returns-then-point-lt128 : goal.returns-then-point-lt128
returns-then-point-lt128 c = (sym (ap length (of_one c.args.point c.if-point-lt128.true)), omega arith)

pub returns-then-point-lt2048 : goal.returns-then-point-lt2048
returns-then-point-lt2048 c = (sym (ap length (of_two c.args.point _ _ c.if-point-lt128.false c.if-point-lt2048.true refl refl)), omega arith)

pub returns-then-point-lt65536 : goal.returns-then-point-lt65536
returns-then-point-lt65536 c = (sym (ap length (of_three c.args.point _ _ _ c.if-point-lt2048.false c.if-point-lt65536.true refl refl refl)), omega arith)

pub returns : goal.returns
returns c = (sym (ap length (of_four c.args.point _ _ _ _ c.if-point-lt65536.false refl refl refl refl)), omega arith)
