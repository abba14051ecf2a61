use mathlib.Core.Path.{◌≡◌, sym, ap, ◌∙◌}
use mathlib.Core.List.{List, [], ◌∷◌}
use Prim.Native.Nat.{ℕ, ◌/◌, ◌%◌}
use native.Mathlib.Omega.{arith}
use lib.ListN.{length-set}
use Rattle.octets.specs.Buffer.{over}
use Rattle.octets.proofs.Laws.Buffer.{stored-two, stored_three, stored_four}
use Rattle.filter_octets.proofs.Laws.Octets.{octets-one, octets-two, octets_three}
use Rattle.filter_octets.proofs.Laws.Size.{head_two, head_three, head_four, head_bounds}
use Rattle.filter_put.proofs.put.put_head.Goals as goal

pub bounds-out-0 : goal.bounds-out-0
bounds-out-0 c = omega (arith, head_bounds c.args.n)

pub bounds-out-1 : goal.bounds-out-1
bounds-out-1 c = simp length-set (omega (arith, head_bounds c.args.n))

pub returns-then-n-lt-ONE_OCTET_LIMIT : goal.returns-then-n-lt-ONE_OCTET_LIMIT
returns-then-n-lt-ONE_OCTET_LIMIT c =
    let p = c.args in
    let h = head_two p.n (omega arith) in
    record {
      value = sym h;
      out_after = stored-two p.out.now p.tag p.n (omega arith) ∙ ap (λ (l : List ℕ). over (p.tag ∷ l) p.out.now) (sym (octets-one p.n (omega arith)));
    }

pub bounds-out-1-then-n-lt-TWO_OCTETS_LIMIT : goal.bounds-out-1-then-n-lt-TWO_OCTETS_LIMIT
bounds-out-1-then-n-lt-TWO_OCTETS_LIMIT c = simp length-set (omega (arith, head_bounds c.args.n))

pub bounds-out-2 : goal.bounds-out-2
bounds-out-2 c =
    let h = head_three c.args.n (omega arith) (omega arith) in
    simp length-set (omega arith)

pub returns-then-n-lt-TWO_OCTETS_LIMIT : goal.returns-then-n-lt-TWO_OCTETS_LIMIT
returns-then-n-lt-TWO_OCTETS_LIMIT c =
    let p = c.args in
    let h = head_three p.n (omega arith) (omega arith) in
    record {
      value = sym h;
      out_after = stored_three p.out.now p.tag 0x81 p.n (omega arith) ∙ ap (λ (l : List ℕ). over (p.tag ∷ l) p.out.now) (sym (octets-two p.n (omega arith) (omega arith)));
    }

pub bounds-out-1-2 : goal.bounds-out-1-2
bounds-out-1-2 c = simp length-set (omega (arith, head_bounds c.args.n))

pub bounds-out-2-2 : goal.bounds-out-2-2
bounds-out-2-2 c =
    let h = head_four c.args.n (omega arith) in
    simp length-set (omega arith)

pub bounds-out-3 : goal.bounds-out-3
bounds-out-3 c =
    let h = head_four c.args.n (omega arith) in
    simp length-set (omega arith)

pub returns : goal.returns
returns c =
    let p = c.args in
    let h = head_four p.n (omega arith) in
    let m : p.n / 256 ≡ p.n / 256 % 256 = omega arith in
    record {
      value = sym h;
      out_after = stored_four p.out.now p.tag 0x82 (p.n / 256) (p.n % 256) (omega arith)
          ∙ ap (λ (x : ℕ). over (p.tag ∷ 0x82 ∷ x ∷ (p.n % 256) ∷ []) p.out.now) m
          ∙ ap (λ (l : List ℕ). over (p.tag ∷ l) p.out.now) (sym (octets_three p.n (omega arith)));
    }
