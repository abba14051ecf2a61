-- Laws of what writing at offsets leaves in a buffer: one write after the other is one write.
use mathlib.Core.Path.{◌≡◌, sym, ap, ◌∙◌}
use mathlib.Core.List.{List, [], ◌++◌, append_assoc}
use Prim.Native.Nat.{ℕ, ◌+◌, ◌≤◌}
use native.Mathlib.Nat.{zero-add, add-zero, add_assoc}
use native.Mathlib.Omega.{arith}
use lib.ListN.{length, take, drop, length-append, take-append-drop}
use lib.Seq.{drop-drop, length-take-le}
use Rattle.octets.specs.Buffer.{over}
use Rattle.octets.proofs.Laws.Buffer.{over_none, over_then}
use Rattle.octets.specs.Number.{little_octets}
use Rattle.octets.proofs.Laws.Number.{length-little}
use Rattle.lent.specs.Internal.OverAt.{over_at}

-- w laid over a buffer d from `base` on makes it d', and the next offset is `at`
pub record Laid (base : ℕ) (d w d' : List ℕ) (at : ℕ) : Type 0 where
  pub within : base ≤ length d
  pub buffer : d' ≡ over_at base w d
  pub next : at ≡ base + length w

pub laid_none : (base : ℕ) (d : List ℕ) → base ≤ length d → Laid base d [] d base
unfolding over_at
laid_none base d h =
    record {
      within = h;
      buffer = sym (ap (λ (x : List ℕ). take base d ++ x) (over_none (drop base d)) ∙ take-append-drop base d);
      next = sym (add-zero base);
    }

-- from an offset on, or over the front: the same
as_front : (base : ℕ) (w d : List ℕ) → base ≤ length d → over_at base w d ≡ over (take base d ++ w) d
unfolding over_at over
as_front base w d h =
    let n : length (take base d ++ w) ≡ base + length w = length-append (take base d) w ∙ ap (λ (k : ℕ). k + length w) (length-take-le base d h) in
    ap (λ (x : List ℕ). take base d ++ (w ++ x)) (drop-drop (length w) base d)
    ∙ sym (append_assoc (take base d) w (drop (base + length w) d))
    ∙ ap (λ (k : ℕ). (take base d ++ w) ++ drop k d) (sym n)

after_front : (w xs d : List ℕ) (at : ℕ) → length w ≡ at → over_at at xs (over w d) ≡ over (w ++ xs) d
unfolding over_at
after_front w xs d at e = over_then w xs d at e

-- octets laid at the next offset are laid after those before them
pub laid_more : {base at next : ℕ} {d w d' d'' : List ℕ} (xs : List ℕ) → Laid base d w d' at → next ≡ at + length xs → d'' ≡ over_at at xs d'
    → Laid base d (w ++ xs) d'' next
laid_more {base} {at} {next} {d} {w} {d'} {d''} xs l n e =
    let f : List ℕ = take base d ++ w in
    let m : length f ≡ at = length-append (take base d) w ∙ ap (λ (k : ℕ). k + length w) (length-take-le base d l.within) ∙ sym l.next in
    record {
      within = l.within;
      buffer =
          e
          ∙ ap (over_at at xs) (l.buffer ∙ as_front base w d l.within)
          ∙ after_front f xs d at m
          ∙ ap (λ (x : List ℕ). over x d) (append_assoc (take base d) w xs)
          ∙ sym (as_front base (w ++ xs) d l.within);
      next = n ∙ ap (λ (k : ℕ). k + length xs) l.next ∙ add_assoc base (length w) (length xs) ∙ ap (λ (k : ℕ). base + k) (sym (length-append w xs));
    }

-- a number laid there
pub laid_number : {base at next : ℕ} {d w d' d'' : List ℕ} (width n : ℕ) → Laid base d w d' at → next ≡ at + width → d'' ≡ over_at at (little_octets width n) d'
    → Laid base d (w ++ little_octets width n) d'' next
laid_number {at = at} width n l q e = laid_more (little_octets width n) l (q ∙ ap (λ (k : ℕ). at + k) (sym (length-little width n))) e

-- at the front of a buffer
pub laid_over : {at : ℕ} {d w d' : List ℕ} → d' ≡ over w d → at ≡ length w → Laid 0 d w d' at
unfolding over_at
laid_over {w = w} e n = record { within = omega arith; buffer = e; next = n ∙ sym (zero-add (length w)) }

pub over_laid : {at : ℕ} {d w d' : List ℕ} → Laid 0 d w d' at → d' ≡ over w d
unfolding over_at
over_laid l = l.buffer

pub length_laid : {at : ℕ} {d w d' : List ℕ} → Laid 0 d w d' at → at ≡ length w
length_laid {w = w} l = l.next ∙ zero-add (length w)
