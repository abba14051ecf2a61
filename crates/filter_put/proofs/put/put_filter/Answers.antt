use mathlib.Core.Path.{sym, ap, ◌∙◌}
use mathlib.Core.List.{List, ◌∷◌, ◌++◌}
use Prim.Native.Nat.{ℕ}
use Rattle.octets.specs.Buffer.{over}
use Rattle.octets.proofs.Laws.Buffer.{over_lent}
use Rattle.filter_position.specs.Filter.{and_tag}
use Rattle.filter.specs.Request.{clause_names}
use Rattle.filter_octets.specs.Octets.{length_octets, element, filter_octets}
use Rattle.filter_octets.specs.Internal.Size.{contents}
use Rattle.filter_octets.proofs.Laws.Size.{head_length}
use Rattle.filter_put.proofs.put.put_filter.Goals as goal

pub returns : goal.returns
unfolding element filter_octets
returns c =
    let p = c.args in
    let h = c.put_head-at in
    let x : List ℕ = contents p.source.now p.request clause_names in
    over_lent (and_tag ∷ length_octets p.size) x c.put_clauses.new.out p.out.now h.new.out h.result h.ensures.out_after (head_length and_tag p.size ∙ sym h.ensures.value) c.put_clauses.ensures
    ∙ ap (λ (k : ℕ). over ((and_tag ∷ length_octets k) ++ x) p.out.now) c.requires.size_value
