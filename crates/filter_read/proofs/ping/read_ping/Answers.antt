use mathlib.Core.Path.{sym, ap, ◌∙◌}
use Rattle.std.proofs.lemmas.Result.{err_from_is_err_and}
use Rattle.answers.specs.Try.{Try, ◌>>=◌}
use Rattle.filter.specs.declared.request.Request.{Request}
use Rattle.filter_read.specs.Value.{ping_in, ping_from}
use Rattle.filter_read.proofs.ping.read_ping.Goals as goal

pub returns-in_err-read_clauses : goal.returns-in_err-read_clauses
unfolding ping_from
returns-in_err-read_clauses c =
    let s = c.args.filter.now in
    let p = err_from_is_err_and c.from_residual.result c.from_residual.ensures.1 in
    rw (p.1, p.2) (ap (λ (t : Try Request). t >>= ping_in s) (sym c.in_err-read_clauses.ensures))

pub returns : goal.returns
unfolding ping_from
returns c =
    let s = c.args.filter.now in
    c.judged_ping.ensures ∙ ap (λ (t : Try Request). t >>= ping_in s) (sym c.in_ok-read_clauses.ensures)
