use Rattle.reader_names.proofs.Laws.NamesRead.{NamesLeft}
use Rattle.reader_names.proofs.list.read_names.Given as goal

abbrev pub invariant-loop-i : goal.invariant-loop-i
invariant-loop-i g l = NamesLeft l.reply l.start g.row.N l.names l.next l.i
