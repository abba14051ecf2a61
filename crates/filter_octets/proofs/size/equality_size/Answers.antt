use mathlib.Core.Path.{◌≡◌, sym, ap, ◌∙◌}
use mathlib.Core.List.{List}
use Prim.Native.Nat.{ℕ, ◌+◌}
use lib.ListN.{length}
use Rattle.filter.specs.Request.{Clause, octets_of, spelling}
use Rattle.filter_octets.specs.Octets.{equality_for}
use Rattle.filter_octets.specs.Internal.Size.{element_size}
use Rattle.filter_octets.proofs.Laws.Size.{equality-length}
use Rattle.filter_octets.proofs.size.equality_size.Goals as goal

pub returns : goal.returns
returns c =
    let p = c.args in
    let v : length (equality_for p.name (octets_of p.source.now p.clause)) ≡ element_size (element_size (length (spelling p.name)) + element_size (length c.of-value.result.now)) =
    ap (λ (x : Clause). length (equality_for p.name (octets_of p.source.now x))) c.in-Some.is
    ∙ equality-length p.name _
    ∙ ap (λ (l : List ℕ). element_size (element_size (length (spelling p.name)) + element_size (length l))) (sym c.of-value.ensures) in
    let n : c.element_size.result ≡ element_size (length (spelling p.name)) = c.element_size.ensures.value ∙ ap element_size c.name_size.ensures.value in
    c.element_size-3.ensures.value ∙ (λ i. element_size (n i + c.element_size-2.ensures.value i)) ∙ sym v
