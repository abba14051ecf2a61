use mathlib.Core.Path.{ap, ◌∙◌}
use mathlib.Core.List.{List}
use Prim.Native.Nat.{ℕ}
use native.Mathlib.Omega.{arith}
use lib.ListN.{length}
use Rattle.octets.specs.Buffer.{over}
use Rattle.filter_position.specs.Filter.{string_tag}
use Rattle.filter_octets.specs.Octets.{element}
use Rattle.filter_octets.specs.Internal.Size.{element_size}
use Rattle.filter_octets.proofs.Laws.Size.{name_bound}
use Rattle.filter_put.proofs.put.put_name.Goals as goal

pub put_string-requires : goal.put_string-requires
put_string-requires c =
    let e = c.spelling_of.ensures in
    let l = ap length e in
    (omega (arith, name_bound c.args.name), rw e c.requires)

pub returns : goal.returns
returns c =
    let e = c.spelling_of.ensures in
    let w = c.put_string.ensures in
    record {
      value = w.value ∙ ap (λ (x : List ℕ). element_size (length x)) e;
      out_after = w.out_after ∙ ap (λ (x : List ℕ). over (element string_tag x) c.args.out.now) e;
    }
