use mathlib.Core.Path.{◌≡◌, refl, ap, ◌∙◌}
use mathlib.Core.List.{List, [], ◌∷◌}
use Prim.Native.Nat.{ℕ, ◌+◌, ◌/◌, ◌%◌, ◌≤◌, ◌<◌}
use native.Mathlib.Omega.{arith}
use lib.ListN.{length, set, length-set}
use Rattle.octets.specs.Buffer.{over}
use Rattle.octets.specs.Number.{big_octets, little_octets}
use Rattle.octets.proofs.Laws.Buffer.{over-more}
use Rattle.names.specs.Name.{pointer_to, pointer_bits, pointer_limit}
use Rattle.names_write.proofs.put.put_ending.Goals as goal
use Rattle.names_write.proofs.put.put_ending.Goals.{In-Some}

-- a pointer's offset, and the room for it
module _ (c : In-Some) where
  abbrev offset : ℕ
  offset = c.in-Some.offset

  low : offset < pointer_limit
  low = rw c.in-Some.is at c.requires.1

  room : 2 ≤ length c.args.out.now
  unfolding pointer_to big_octets little_octets
  room = rw c.in-Some.is at c.requires.0

pub bounds-out-0 : goal.bounds-out-0
bounds-out-0 c = rw c.in_default.is at c.requires.0

pub returns-in_default : goal.returns-in_default
unfolding over
returns-in_default c =
    let h : 1 ≤ length c.args.out.now = rw c.in_default.is at c.requires.0 in
    rw c.in_default.is (record { value = refl; out_after = over-more [] c.args.out.now 0 0 refl h })

pub overflow_add-out : goal.overflow_add-out
overflow_add-out c = omega (arith, low (goal.at.overflow_add-out c).In-Some)

pub bounds-out-0-2 : goal.bounds-out-0-2
bounds-out-0-2 c = let h = room (goal.at.bounds-out-0-2 c).In-Some in omega arith

pub bounds-out-1 : goal.bounds-out-1
bounds-out-1 c = let h = room (goal.at.bounds-out-1 c).In-Some in simp length-set (omega arith)

pub returns : goal.returns
unfolding over pointer_to big_octets little_octets
returns c =
    let d : List ℕ = c.args.out.now in
    let x : ℕ = (pointer_bits + offset (goal.at.returns c).In-Some) / 256 % 256 in
    let e : offset (goal.at.returns c).In-Some % 256 ≡ (pointer_bits + offset (goal.at.returns c).In-Some) % 256 = omega arith in
    let h = room (goal.at.returns c).In-Some in
    rw c.in-Some.is (record {
      value = refl;
      out_after = ap (λ (l : List ℕ). set l 1 (offset (goal.at.returns c).In-Some % 256)) (over-more [] d 0 x refl (omega arith))
          ∙ over-more (x ∷ []) d 1 (offset (goal.at.returns c).In-Some % 256) refl h
          ∙ ap (λ (y : ℕ). over (x ∷ y ∷ []) d) e;
    })
