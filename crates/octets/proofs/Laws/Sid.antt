-- A SID is refused for each of its rules.
use mathlib.Core.Path.{◌≡◌, sym}
use mathlib.Core.Bool.{false, ◌&&◌, and-false}
use mathlib.Core.List.{List}
use Prim.Native.Nat.{ℕ, ◌+◌, ◌*◌, ◌≤◌, ◌<◌}
use native.Mathlib.Omega.{arith}
use lib.Dec.{eqb, leb}
use lib.ListN.{length, get_or}
use borrow.Author.Tests.{eq-eqb, ne_eqb, le-leb, lt-leb}
use Rattle.octets.specs.Sid.{is_sid}

module _ (s : List ℕ) where
  pub sid-short : length s < 8 → false ≡ is_sid s
  unfolding is_sid
  sid-short h = rw (ne_eqb (length s) (8 + 4 * get_or s 1 0) (λ e. omega arith)) (sym (and-false (eqb (get_or s 0 0) 1 && leb (get_or s 1 0) 15)))

  pub sid_revision : (get_or s 0 0 ≡ 1 → ⊥) → false ≡ is_sid s
  unfolding is_sid
  sid_revision n = rw (ne_eqb (get_or s 0 0) 1 n)

  module _ (revision : get_or s 0 0 ≡ 1) where
    pub sid_count : 15 < get_or s 1 0 → false ≡ is_sid s
    unfolding is_sid
    sid_count h = rw (eq-eqb (get_or s 0 0) 1 revision, lt-leb (get_or s 1 0) 15 h)

    pub sid-length : get_or s 1 0 ≤ 15 → eqb (length s) (8 + 4 * get_or s 1 0) ≡ is_sid s
    unfolding is_sid
    sid-length h = rw (eq-eqb (get_or s 0 0) 1 revision, le-leb (get_or s 1 0) 15 h)
