-- The request of a filter that was gathered, or its refusal.
use Rattle.std.specs.Prelude.{Ok}
use Rattle.answers.specs.Try.{Try, ◌>>=◌}
use Rattle.filter.specs.declared.request.Request.{Request}
use Rattle.filter_gather.specs.Internal.Gather.{Gathered}

abbrev pub request_read : {A : Type 0} → Try A → Gathered → Try Request
request_read read g = read >>= λ done. Ok g.request
