use Rattle.std.proofs.Common.{ap, ◌∙◌, arith, List, ℕ, ◌≤◌, length}
use Rattle.table.specs.Server.{Server}
use Rattle.table.specs.Table.{table_from}
use Rattle.table_whole.proofs.Laws.Judgement.{accepted_bounds}
use Rattle.table_lookup.specs.Lookup.{context_by_number, default_context_lem}
use Rattle.table_lookup.proofs.lookup.default_context.Goals as goal

pub server_of-requires : goal.server_of-requires
server_of-requires c =
    let long : 1024 ≤ length c.args.image.now = (accepted_bounds c.args.image.now c.octets.ensures.accepted).0 in
    omega (arith, long, ap length c.octets.ensures.same)

pub returns-clause-result_value : goal.returns-clause-result_value
unfolding default_context_lem
returns-clause-result_value c =
    let number =
    c.default_context.ensures ∙ ap (λ (s : Server). s.default_context_lem) c.server_of.ensures ∙ ap (λ (s : List ℕ). (table_from s).server.default_context_lem) c.octets.ensures.same in
    c.context_by_number.ensures.result_value ∙ ap (context_by_number (table_from c.args.image.now)) number
