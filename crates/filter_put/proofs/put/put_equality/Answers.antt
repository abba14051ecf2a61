use Rattle.std.proofs.Common.{Option, Some}
use mathlib.Core.Path.{◌≡◌, refl, sym, ap, ◌∙◌}
use mathlib.Core.List.{List}
use Prim.Native.Nat.{ℕ, ◌+◌}
use native.Mathlib.Omega.{arith}
use lib.ListN.{length}
use Rattle.octets.specs.Buffer.{over}
use Rattle.octets.proofs.Laws.Buffer.{over_none}
use Rattle.filter.specs.declared.request.ClauseName.{ClauseName}
use Rattle.filter.specs.Request.{spelling, octets_of}
use Rattle.filter_octets.specs.Octets.{equality_for}
use Rattle.filter_octets.specs.Internal.Size.{element_size}
use Rattle.filter_octets.proofs.Laws.Size.{equality-length}
use Rattle.filter_put.proofs.put.put_equality.Goals as goal
use Rattle.filter_put.proofs.put.put_equality.Goals.{After-element_size-2}

-- what the pair is to be: its contents' size, its own, and the octets of the clause
module _ (c : After-element_size-2) where
  abbrev octets : List ℕ
  octets = c.of-value.result.now

  abbrev name : ClauseName
  name = c.args.name

  pair_size : c.element_size.result + c.element_size-2.result ≡ element_size (length (spelling name)) + element_size (length octets)
  pair_size =
      let n : c.element_size.result ≡ element_size (length (spelling name)) = c.element_size.ensures.value ∙ ap element_size c.name_size.ensures.value in
      λ i. n i + c.element_size-2.ensures.value i

  clause-octets : Some octets ≡ octets_of c.args.source.now c.args.clause
  clause-octets = ap Some c.of-value.ensures ∙ ap (octets_of c.args.source.now) (sym c.in-Some.is)

  pair-length : element_size (c.element_size.result + c.element_size-2.result) ≡ length (equality_for name (octets_of c.args.source.now c.args.clause))
  pair-length = ap element_size pair_size ∙ sym (equality-length name octets) ∙ ap (λ (o : Option (List ℕ)). length (equality_for name o)) clause-octets

pub returns-in_default : goal.returns-in_default
returns-in_default c =
    let p = c.args in
    rw c.in_default.is (record { value = refl; out_after = sym (over_none p.out.now) })

pub put_pair-requires : goal.put_pair-requires
put_pair-requires c =
    let l = pair-length (goal.at.put_pair-requires c).After-element_size-2 in
    record {
      size_value = pair_size (goal.at.put_pair-requires c).After-element_size-2;
      size_in_bounds = (omega arith, omega arith);
    }

pub returns : goal.returns
returns c =
    let p = c.args in
    record {
      value = c.put_pair.ensures.value ∙ pair-length (goal.at.returns c).After-element_size-2;
      out_after = c.put_pair.ensures.out_after ∙ ap (λ (o : Option (List ℕ)). over (equality_for p.name o) p.out.now) (clause-octets (goal.at.returns c).After-element_size-2);
    }
