-- A field that stands where the reader is, is read whole, and what is left stands after it.
use Rattle.std.proofs.Common.{Ok}
use mathlib.Core.Path.{◌≡◌, refl, sym, ap, ◌∙◌, subst}
use mathlib.Core.List.{List, [], ◌++◌, append_assoc}
use Prim.Native.Nat.{ℕ, ◌+◌, ◌/◌, ◌%◌, ◌≤◌}
use native.Mathlib.Omega.{arith}
use lib.ListN.{length, length-append}
use borrow.Author.Tests.{le-ltb}
use Rattle.std.specs.Int.{to_le_bytes, w16, w32}
use Rattle.octets.specs.Lists.{cut}
use Rattle.octets.specs.Number.{little_octets}
use Rattle.octets.proofs.Laws.Lists.{cut-after}
use Rattle.octets.proofs.Laws.Text.{same_self}
use Rattle.reader.specs.Field.{read_octets, read_stretch, read_fixed}

-- the octets of a number, as std puts them
pub two-octets : (n : ℕ) → to_le_bytes w16 n ≡ little_octets 2 n
unfolding little_octets
two-octets n = refl

pub four-octets : (n : ℕ) → to_le_bytes w32 n ≡ little_octets 4 n
unfolding little_octets
four-octets n =
    let b : n / 65536 % 256 ≡ n / 256 / 256 % 256 = omega arith in
    let c : n / 16777216 % 256 ≡ n / 256 / 256 / 256 % 256 = omega arith in
    rw (b, c)

-- from `at` on, s holds these octets and no others
pub record Left (s : List ℕ) (at : ℕ) (rest : List ℕ) : Type 0 where
  pub front : List ℕ
  pub whole : s ≡ front ++ rest
  pub offset : length front ≡ at

pub left-start : (s : List ℕ) → Left s 0 s
left-start s = record { front = []; whole = refl; offset = refl }

module _ {s : List ℕ} {at : ℕ} where
  pub left_after : (x rest : List ℕ) → Left s at (x ++ rest) → Left s (at + length x) rest
  left_after x rest l =
      let n : length (l.front ++ x) ≡ at + length x = simp length-append (omega (arith, l.offset)) in
      record { front = l.front ++ x; whole = l.whole ∙ sym (append_assoc l.front x rest); offset = n }

  pub left-length : (rest : List ℕ) → Left s at rest → length s ≡ at + length rest
  left-length rest l = ap length l.whole ∙ simp length-append (omega (arith, l.offset))

  pub left_cut : (x rest : List ℕ) → Left s at (x ++ rest) → cut s at (length x) ≡ x
  left_cut x rest l = rw (l.whole, ← l.offset) (cut-after l.front x rest)

  -- n octets that stand here
  pub octets_here : (x rest : List ℕ) (n : ℕ) → length x ≡ n → Left s at (x ++ rest) → read_octets s at n ≡ Ok (record { value = x; next = at + n })
  unfolding read_octets
  octets_here x rest n e l =
      let h : length s ≡ at + length (x ++ rest) = left-length (x ++ rest) l in
      let k : at + n ≤ length s = omega (arith, simp length-append at h) in
      let c : cut s at n ≡ x = subst (λ (m : ℕ). cut s at m ≡ x) e (left_cut x rest l) in
      rw (le-ltb (length s) (at + n) k, c)

  pub stretch_here : (x rest : List ℕ) (n : ℕ) → length x ≡ n → Left s at (x ++ rest) → read_stretch s at n ≡ Ok (record { value = record { start = at; len = n }; next = at + n })
  unfolding read_stretch
  stretch_here x rest n e l = rw (octets_here x rest n e l)

  pub fixed_here : (x rest : List ℕ) (n : ℕ) → length x ≡ n → Left s at (x ++ rest) → read_fixed s at x ≡ Ok (record { value = x; next = at + n })
  unfolding read_fixed
  fixed_here x rest n e l = rw (e, octets_here x rest n e l, same_self x)

  pub left-next : (x rest : List ℕ) (n : ℕ) → length x ≡ n → Left s at (x ++ rest) → Left s (at + n) rest
  left-next x rest n e l = subst (λ (m : ℕ). Left s (at + m) rest) e (left_after x rest l)

-- the offset of what is left is known by its length
pub left-same : {s : List ℕ} {a b : ℕ} (rest : List ℕ) → Left s a rest → Left s b rest → a ≡ b
left-same {s} {a} {b} rest l m =
    let x : length s ≡ a + length rest = left-length rest l in
    let y : length s ≡ b + length rest = left-length rest m in
    omega arith
