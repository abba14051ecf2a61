use Rattle.std.proofs.Common.{Err, rules}
use mathlib.Core.Path.{◌≡◌, sym, subst}
use mathlib.Core.List.{List}
use native.Mathlib.Omega.{arith}
use lib.ListN.{length-replicate}
use Rattle.answers.specs.Try.{Try}
use Rattle.reader.specs.declared.field.Read.{Read}
use Rattle.reader_names.specs.declared.NameAt.{NameAt}
use Rattle.reader_names.specs.Internal.NamesRead.{NamesOf}
use Rattle.reader_names.proofs.Laws.NamesRead.{names-start, names-refused, names_more, names-end}
use Rattle.reader_names.proofs.list.read_names.Goals as goal

pub loop-i-init : goal.loop-i-init
loop-i-init g c = names-start c.args.reply.now c.args.start g.row.N _ (length-replicate {A = NameAt} g.row.N _)

pub returns-in_err-name : goal.returns-in_err-name
returns-in_err-name g c =
    let a = c.args in
    let e : ◌≡◌ {A = Try (Read (List NameAt))} c.from_residual.result (Err c.in_err-name.field-0.0) = search rules in
    subst (NamesOf a.reply.now a.start g.row.N) (sym e)
    (names-refused a.reply.now a.start g.row.N c.loop-i.invariant c.loop-i-test.true _ c.in_err-name.ensures)

pub loop-i-preserved : goal.loop-i-preserved
loop-i-preserved g c =
    let a = c.args in
    let f = c.in_ok-name.name in
    let (n, e, q) = c.in_ok-name.ensures in
    names_more a.reply.now a.start g.row.N c.loop-i.invariant c.loop-i-test.true n f.value f.next e q

pub returns : goal.returns
returns g c =
    let a = c.args in
    names-end a.reply.now a.start g.row.N c.loop-i.invariant (omega arith)
