use mathlib.Core.Path.{sym, ap, ◌∙◌}
use Rattle.std.proofs.Common.{Ok}
use Rattle.std.proofs.lemmas.Result.{err_from_is_err_and}
use Rattle.filter.specs.declared.request.Request.{Request}
use Rattle.filter_read.proofs.Laws.Taken.{take_apart_promised}
use Rattle.filter_read.proofs.read.take_apart.Goals as goal

pub returns-in_err-read_clauses : goal.returns-in_err-read_clauses
returns-in_err-read_clauses c =
    let p = err_from_is_err_and c.from_residual.result c.from_residual.ensures.1 in
    take_apart_promised _ _ (rw (p.1, p.2) (sym c.in_err-read_clauses.ensures))

pub returns : goal.returns
returns c = take_apart_promised _ _ (ap (λ (q : Request). Ok q) c.request.ensures ∙ sym c.in_ok-read_clauses.ensures)
