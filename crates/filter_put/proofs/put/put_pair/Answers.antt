use mathlib.Core.Path.{◌≡◌, sym, ap, ◌∙◌}
use mathlib.Core.List.{List, ◌∷◌, ◌++◌, append_assoc}
use Prim.Native.Nat.{ℕ, ◌+◌, ◌-◌}
use native.Mathlib.Omega.{arith}
use lib.ListN.{length, take, drop, length-append}
use Rattle.octets.specs.Buffer.{over}
use Rattle.octets.proofs.Laws.Buffer.{over_lent}
use Rattle.filter_position.specs.Filter.{equality_tag, string_tag}
use Rattle.filter.specs.Request.{spelling}
use Rattle.filter_octets.specs.Octets.{length_octets, element}
use Rattle.filter_octets.proofs.Laws.Size.{head_length, element-length}
use Rattle.filter_put.proofs.put.put_pair.Goals as goal

pub returns : goal.returns
unfolding element
returns c =
    let p = c.args in
    let h = c.put_head-name_at in
    let n = c.put_name in
    let v = c.put_string in
    let d : List ℕ = p.out.now in
    let x : List ℕ = equality_tag ∷ length_octets p.size in
    let y : List ℕ = element string_tag (spelling p.name) in
    let z : List ℕ = element string_tag p.value.now in
    let m : List ℕ = take h.result h.new.out ++ (n.new.out ++ drop (length h.new.out - h.result) (drop h.result h.new.out)) in
    let lx : length x ≡ h.result = head_length equality_tag p.size ∙ sym h.ensures.value in
    let ly : length y ≡ n.result = element-length string_tag (spelling p.name) ∙ sym n.ensures.value in
    let lxy : length (x ++ y) ≡ h.result + n.result = length-append x y ∙ (λ i. lx i + ly i) in
    let lyz : p.size ≡ length (y ++ z) = c.requires.size_value ∙ sym (length-append y z ∙ (λ i. element-length string_tag (spelling p.name) i + element-length string_tag p.value.now i)) in
    let e : m ≡ over (x ++ y) d = over_lent x y n.new.out d h.new.out h.result h.ensures.out_after lx n.ensures.out_after in
    record {
      value = omega arith;
      out_after = over_lent (x ++ y) z v.new.out d m (h.result + n.result) e lxy v.ensures.out_after
          ∙ ap (λ (l : List ℕ). over l d) (append_assoc x y z ∙ ap (λ (k : ℕ). (equality_tag ∷ length_octets k) ++ (y ++ z)) lyz);
    }
