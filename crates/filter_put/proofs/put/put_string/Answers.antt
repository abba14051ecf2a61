use mathlib.Core.Path.{sym, ap, ◌∙◌}
use Prim.Native.Nat.{ℕ, ◌+◌}
use lib.ListN.{length}
use Rattle.lent.proofs.Laws.OverAt.{laid_over, laid_more, over_laid}
use Rattle.filter_position.specs.Filter.{string_tag}
use Rattle.filter_octets.specs.Octets.{element}
use Rattle.filter_octets.proofs.Laws.Size.{head_length}
use Rattle.filter_put.proofs.put.put_string.Goals as goal

pub returns : goal.returns
unfolding element
returns c =
    let a = c.args in
    let h = c.put_head-at in
    let w = c.put_octets_at in
    let n : ℕ = length a.s.now in
    let l = laid_more a.s.now (laid_over h.ensures.out_after (h.ensures.value ∙ sym (head_length string_tag n))) w.ensures.value w.ensures.out_after in
    record {
      value = w.ensures.value ∙ ap (λ (k : ℕ). k + n) h.ensures.value;
      out_after = over_laid l;
    }
